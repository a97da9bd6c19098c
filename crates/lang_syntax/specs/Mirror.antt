-- Checked sources of code as those of the language's definitions.
use Rattle.std.specs.Prelude.{List, [], ◌∷◌, map, option_map}
use Rattle.rt_language.specs.Syntax as language
pub use Rattle.lang_syntax.specs.Expressions.{literal_of, expression_of, arguments_of, derived_of}
use Rattle.lang_syntax.specs.declared.statement.HookTime.{HookTime}
use Rattle.lang_syntax.specs.declared.statement.HookTime.TheVariants as times
use Rattle.lang_syntax.specs.declared.statement.SpawnKind.{SpawnKind}
use Rattle.lang_syntax.specs.declared.statement.SpawnKind.TheVariants as kinds
use Rattle.lang_syntax.specs.declared.statement.TaskAct.{TaskAct}
use Rattle.lang_syntax.specs.declared.statement.TaskAct.TheVariants as acts
use Rattle.lang_syntax.specs.declared.statement.Simple.{Simple}
use Rattle.lang_syntax.specs.declared.statement.Simple.TheVariants as simple
use Rattle.lang_syntax.specs.declared.statement.Statement.{Statement}
use Rattle.lang_syntax.specs.declared.statement.Statement.TheOpen.{Statement-F}
use Rattle.lang_syntax.specs.declared.statement.Statement.TheFolds.{fold-Statement}
use Rattle.lang_syntax.specs.declared.view.ComponentUse.{ComponentUse}
use Rattle.lang_syntax.specs.declared.view.ViewAttribute.{ViewAttribute}
use Rattle.lang_syntax.specs.declared.view.ViewAttribute.TheVariants as attributes
use Rattle.lang_syntax.specs.declared.view.ViewNode.{ViewNode}
use Rattle.lang_syntax.specs.declared.view.ViewNode.TheOpen.{ViewNode-F, ViewSlot-F}
use Rattle.lang_syntax.specs.declared.view.ViewNode.TheFolds.{fold-ViewNode}
use Rattle.lang_syntax.specs.declared.source.ComponentSource.{ComponentSource}
use Rattle.lang_syntax.specs.declared.source.PostSource.{PostSource}
use Rattle.lang_syntax.specs.declared.source.PostSource.TheVariants as posts
use Rattle.lang_syntax.specs.declared.source.InputSource.{InputSource}
use Rattle.lang_syntax.specs.declared.source.InputSource.TheVariants as inputs
use Rattle.lang_syntax.specs.declared.source.Source.{Source}

-- when a hook calls its action
abbrev pub time_of : HookTime → language.HookTime
time_of times.AtRemoval = language.AtRemoval
time_of times.BeforeRender = language.BeforeRender
time_of times.AfterRender = language.AfterRender

-- what kind of task is spawned
abbrev pub spawned_of : SpawnKind → language.SpawnKind
spawned_of kinds.Client = language.Client
spawned_of kinds.Isomorphic = language.Isomorphic
spawned_of kinds.Forever = language.Forever

-- what is done to a task
abbrev pub act_of : TaskAct → language.TaskAct
act_of acts.WakeUp = language.WakeUp
act_of acts.Cancel = language.Cancel
act_of acts.Pause = language.Pause
act_of acts.Resume = language.Resume

-- statements in a row
abbrev pub one_by_one : List language.Statement → language.Statements
one_by_one [] = language.NoStatements
one_by_one (s ∷ ss) = language.MoreStatements s (one_by_one ss)

-- a statement after which the next one always follows
abbrev pub simple_of : Simple → language.Statement
simple_of (simple.Let e) = language.Let (expression_of e)
simple_of (simple.EffectOf action arguments) = language.EffectOf action (arguments_of arguments)
simple_of (simple.OnResolved action arguments) = language.OnResolved action (arguments_of arguments)
simple_of simple.FreezeBoundary = language.FreezeBoundary
simple_of (simple.ProvideAs kind value) = language.ProvideAs kind (expression_of value)
simple_of (simple.WriteTo variable value) = language.WriteTo variable (expression_of value)
simple_of (simple.Forget variable) = language.Forget variable
simple_of (simple.ActOn act variable) = language.ActOn (act_of act) variable
simple_of (simple.MarkScopeOf scope) = language.MarkScopeOf (expression_of scope)
simple_of simple.ClearError = language.ClearError
simple_of simple.Stop = language.Stop
simple_of simple.Prevent = language.Prevent
simple_of simple.Stay = language.Stay

-- one level of a statement
abbrev pub statement_step : Statement-F language.Statement → language.Statement
statement_step (Statement-F.Does s) = simple_of s
statement_step (Statement-F.SpawnTask task arguments kind) = language.SpawnTask task (arguments_of arguments) (spawned_of kind)
statement_step (Statement-F.When test statements) = language.When (expression_of test) (one_by_one statements)
statement_step (Statement-F.ThrowText text) = language.ThrowText (expression_of text)
statement_step (Statement-F.UseCell e) = language.UseCell (expression_of e)
statement_step (Statement-F.UseHook e) = language.UseHook (expression_of e)
statement_step (Statement-F.UseDerived formula) = language.UseDerived (derived_of formula)
statement_step (Statement-F.CallAt time action arguments) = language.CallAt (time_of time) action (arguments_of arguments)
statement_step (Statement-F.FailWith text) = language.FailWith (expression_of text)
statement_step (Statement-F.SuspendOn variable) = language.SuspendOn variable

-- a statement
abbrev pub statement_of : Statement → language.Statement
statement_of = fold-Statement language.Statement statement_step

-- the statements of a body, an action or a step
abbrev pub statements_of : List Statement → language.Statements
statements_of ss = one_by_one (map statement_of ss)

-- a component with its props
abbrev pub use_of : ComponentUse → language.ComponentUse
use_of u = record { component = u.component; props = arguments_of u.props }

-- an attribute of an element
abbrev pub attribute_of : ViewAttribute → language.ViewAttribute
attribute_of (attributes.Static name value) = language.StaticAttribute name value
attribute_of (attributes.Slot name value) = language.SlotAttribute name (expression_of value)
attribute_of (attributes.Listener name action arguments) = language.ListenerAttribute name action (arguments_of arguments)

-- several nodes, one after another, before those that come after them
abbrev pub all_before : List (language.View → language.View) → language.View → language.View
all_before [] rest = rest
all_before (node ∷ nodes) rest = node (all_before nodes rest)

-- nodes as a view of their own
abbrev pub alone : List (language.View → language.View) → language.View
alone nodes = all_before nodes language.NoViews

-- one level of a node, before the nodes that come after it
abbrev pub node_step : ViewNode-F (language.View → language.View) language.ViewSlot → language.View → language.View
node_step (ViewNode-F.Text text) rest = language.TextView text rest
node_step (ViewNode-F.Element tag namespace attributes kids) rest =
    language.ElementView tag namespace (map attribute_of attributes) (alone kids) rest
node_step (ViewNode-F.Slot slot) rest = language.SlotView slot rest

-- one level of a slot
abbrev pub slot_step : ViewSlot-F (language.View → language.View) language.ViewSlot → language.ViewSlot
slot_step (ViewSlot-F.TextOf e) = language.TextOf (expression_of e)
slot_step (ViewSlot-F.UseOf u) = language.UseOf (use_of u)
slot_step (ViewSlot-F.ListOf count item) = language.ListOf (expression_of count) (alone item)
slot_step (ViewSlot-F.PickOf test chosen other) = language.PickOf (expression_of test) (alone chosen) (alone other)
slot_step (ViewSlot-F.FragmentOf children) = language.FragmentOf (alone children)
slot_step (ViewSlot-F.ErrorBoundaryOf kids handler) = language.ErrorBoundaryOf (alone kids) (option_map use_of handler)
slot_step (ViewSlot-F.SuspenseBoundaryOf kids fallback) = language.SuspenseBoundaryOf (alone kids) (option_map use_of fallback)
slot_step ViewSlot-F.Hole = language.Hole

-- a node, before the nodes that come after it
abbrev pub node_before : ViewNode → language.View → language.View
node_before = fold-ViewNode (language.View → language.View) language.ViewSlot node_step slot_step

-- what a component shows
abbrev pub view_of : List ViewNode → language.View
view_of nodes = alone (map node_before nodes)

-- a component
abbrev pub component_of : ComponentSource → language.ComponentSource
component_of c = record { statements = statements_of c.statements; view = view_of c.view }

-- a message
abbrev pub post_of : PostSource → language.PostSource
post_of (posts.Mark scope) = language.PostMark scope
post_of (posts.Wake task) = language.PostWake task
post_of posts.All = language.PostAll

-- what comes from outside
abbrev pub input_of : InputSource → language.InputSource
input_of (inputs.Event name element payload bubbles) = language.EventInput name element (option_map literal_of payload) bubbles
input_of (inputs.Wake task) = language.WakeInput task
input_of (inputs.Write cell value) = language.WriteInput cell (literal_of value)
input_of (inputs.Mark scope) = language.MarkInput scope
input_of (inputs.Drain posts) = language.DrainInput (map post_of posts)

-- a whole source
abbrev pub source_of : Source → language.Source
source_of s = record {
  components = map component_of s.components;
  root = s.root;
  props = map literal_of s.props;
  actions = map statements_of s.actions;
  tasks = map (map statements_of) s.tasks;
  inputs = map input_of s.inputs;
  posts = map (map post_of) s.posts;
}
