-- Short ways to write the sources of rows.
use Rattle.std.specs.Prelude.{ℕ, zero, suc, ◌+◌, pos, List, [], ◌∷◌, ◌++◌, map, None, codes}
use Rattle.rt_model.specs.Lists.{Text}
use Rattle.rt_model.specs.Replay.{Entry, Build, Made}
use Rattle.rt_language.specs.Syntax.{NumberLiteral, TextLiteral, Expression, Say, Expressions, NoExpressions, MoreExpressions, ValueOf, LoadOf, Client, Statement, UseDerived, SpawnTask, Statements, NoStatements, MoreStatements, ComponentUse, ViewAttribute, ListenerAttribute, View, NoViews, TextView, ElementView, SlotView, ViewSlot, UseOf, TextOf, ComponentSource, InputSource, EventInput, WriteInput, Source}

-- a whole number, said
abbrev pub number : ℕ → Expression
number n = Say (NumberLiteral (pos n))

-- a text, said
abbrev pub words : Text → Expression
words t = Say (TextLiteral t)

-- expressions in a row
abbrev pub these : List Expression → Expressions
these [] = NoExpressions
these (e ∷ es) = MoreExpressions e (these es)

-- statements in a row
abbrev pub steps : List Statement → Statements
steps [] = NoStatements
steps (s ∷ ss) = MoreStatements s (steps ss)

-- one slot, alone
abbrev pub slot : ViewSlot → View
slot v = SlotView v NoViews

-- a text that an expression gives, alone
abbrev pub text_slot : Expression → View
text_slot e = slot (TextOf e)

-- an element without attributes, alone
abbrev pub element : Text → View → View
element tag kids = ElementView tag None [] kids NoViews

-- a text that stands as it is, alone
abbrev pub text : Text → View
text t = TextView t NoViews

-- a component with its props
abbrev pub handed : ℕ → List Expression → ComponentUse
handed component props = record { component = component; props = these props }

-- a component in a slot, before other nodes
abbrev pub use_before : ℕ → List Expression → View → View
use_before component props rest = SlotView (UseOf (handed component props)) rest

-- a component
abbrev pub component : List Statement → View → ComponentSource
component statements view = record { statements = steps statements; view = view }

-- a source of components alone, the first of which is the root
abbrev pub of_components : List ComponentSource → List InputSource → Source
of_components components inputs =
    record { components = components; root = 0; props = []; actions = []; tasks = []; inputs = inputs; posts = [] }

-- a source with actions
abbrev pub with_actions : Source → List (List Statement) → Source
with_actions s actions = record s { actions = map steps actions }

-- a source with tasks, each by its steps
abbrev pub with_tasks : Source → List (List (List Statement)) → Source
with_tasks s tasks = record s { tasks = map (map steps) tasks }

-- a listener of an action
abbrev pub on : Text → ℕ → List Expression → ViewAttribute
on name action arguments = ListenerAttribute name action (these arguments)

-- an element with attributes, before other nodes
abbrev pub element_with : Text → List ViewAttribute → View → View → View
element_with tag attributes kids rest = ElementView tag None attributes kids rest

-- a component in a slot, alone
abbrev pub use_alone : ℕ → List Expression → View
use_alone component props = use_before component props NoViews

-- a task that the body spawns
abbrev pub spawns : ℕ → List Expression → Statement
spawns task arguments = SpawnTask task (these arguments) Client

-- a memo, and a resource whose loading waits for so many steps
abbrev pub memo : Expression → Statement
memo value = UseDerived (ValueOf value)

abbrev pub resource : Expression → ℕ → Expression → Statement
resource key waits value = UseDerived (LoadOf key waits value)

-- a number is written to a cell
abbrev pub write_number : ℕ → ℕ → InputSource
write_number cell n = WriteInput cell (NumberLiteral (pos n))

-- a text is written to a cell
abbrev pub write_text : ℕ → Text → InputSource
write_text cell t = WriteInput cell (TextLiteral t)

-- an event that bubbles
abbrev pub event : Text → ℕ → InputSource
event name element = EventInput name element None None

-- this scope and so many after it are made
abbrev pub makes : ℕ → ℕ → List Entry
makes s zero = []
makes s (suc more) = Made s ∷ makes (s + 1) more

-- the log of a build that makes so many scopes
abbrev pub builds : ℕ → List Entry
builds n = Build ∷ makes 1 n

-- the log of a build of a root without components below it
abbrev pub built : List Entry
built = builds 3

-- its line
abbrev pub built_line : Text
built_line = codes "report 0 units 0 bodies 4 edits 1 log build made:1 made:2 made:3"

-- a text of these lines
abbrev pub lines : List Text → Text
lines [] = []
lines (t ∷ ts) = t ++ codes "\n" ++ lines ts
