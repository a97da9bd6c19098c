-- What an object of JSON tells. Its members may stand in any order, and others beside them.
use Rattle.std.specs.Prelude.{ℕ, Bool, true, false, List, [], ◌∷◌, length, bytes_eq, codes, Option, Some, None, option_and_then, option_map, if◌then◌else◌}
use Rattle.std.specs.Str.Parse.{digits_value}
use Rattle.json.specs.Find.{get}
use Rattle.json.specs.Json.{Json, null, boolean, number, string, array, object, Items, no_items, item, Members, no_members, member, value, if_last}
use Rattle.json.specs.Lex.{tokens}
use Rattle.rt_language.specs.Lines.{counter_text}
use Rattle.rt_model.specs.Document.{DocAttribute, Content, DocElement, DocText, DocPlaceholder, Forest, Empty, Node, Edit, AppendChildren, ReplaceNodeWith, InsertNodesAfter, RemoveNode, SetNodeText, SetAttribute, CreateEventListener, RemoveEventListener}
use Rattle.rt_model.specs.Lists.{Text}
use Rattle.rt_model.specs.Replay.{Entry, Build, Taken, Heard, Rerun, Poll, Effects, Made, Fed, Kept, Removed}
use Rattle.rt_model.specs.Reports.{Report}
use Rattle.rt_model.specs.State.{Fault, OutOfTurns, TooDeep, IdsExhausted, HookChanged, NoSuchTask, BadNode}
use Rattle.rt_model.specs.World.{Counter, Scopes, Tasks, Cells, Contexts, Elements, Errors, Renders}
use Rattle.show_answers.specs.Told.{Told, ToldEdit, ToldFault, ToldRefusal, ToldReport}

-- values

-- a number
abbrev pub number_in : Json → Option ℕ
number_in null = None
number_in (boolean so) = None
number_in (number digits) = Some (digits_value 10 digits)
number_in (string text) = None
number_in (array js) = None
number_in (object ms) = None

-- a text
abbrev pub text_in : Json → Option Text
text_in null = None
text_in (boolean so) = None
text_in (number digits) = None
text_in (string text) = Some text
text_in (array js) = None
text_in (object ms) = None

-- a text, or null for none
abbrev pub maybe_in : Json → Option (Option Text)
maybe_in null = Some None
maybe_in (boolean so) = None
maybe_in (number digits) = None
maybe_in (string text) = Some (Some text)
maybe_in (array js) = None
maybe_in (object ms) = None

-- true or false
abbrev pub flag_in : Json → Option Bool
flag_in null = None
flag_in (boolean so) = Some so
flag_in (number digits) = None
flag_in (string text) = None
flag_in (array js) = None
flag_in (object ms) = None

-- the values of a list
abbrev pub items_in : Json → Option Items
items_in null = None
items_in (boolean so) = None
items_in (number digits) = None
items_in (string text) = None
items_in (array js) = Some js
items_in (object ms) = None

-- the same of a member
abbrev pub number_at : Text → Json → Option ℕ
number_at name j = option_and_then number_in (get name j)

abbrev pub text_at : Text → Json → Option Text
text_at name j = option_and_then text_in (get name j)

abbrev pub maybe_at : Text → Json → Option (Option Text)
maybe_at name j = option_and_then maybe_in (get name j)

abbrev pub flag_at : Text → Json → Option Bool
flag_at name j = option_and_then flag_in (get name j)

abbrev pub items_at : Text → Json → Option Items
items_at name j = option_and_then items_in (get name j)

-- nodes

-- an attribute of this name, namespace and value
abbrev pub attribute_of : Text → Option Text → Text → DocAttribute
attribute_of name namespace to = record { name = name; namespace = namespace; value = to }

abbrev pub attribute_in : Json → Option DocAttribute
attribute_in j =
    option_and_then (λ name. option_and_then (λ namespace. option_map (attribute_of name namespace) (text_at (codes "value") j))
    (maybe_at (codes "ns") j)) (text_at (codes "name") j)

abbrev pub attributes_in : Items → Option (List DocAttribute)
attributes_in no_items = Some []
attributes_in (item j js) = option_and_then (λ a. option_map (λ rest. a ∷ rest) (attributes_in js)) (attribute_in j)

-- the names of listeners
abbrev pub names_in : Items → Option (List Text)
names_in no_items = Some []
names_in (item j js) = option_and_then (λ name. option_map (λ rest. name ∷ rest) (names_in js)) (text_in j)

-- an element with this tag
abbrev pub element_in : Json → Text → Option Content
element_in j tag =
    option_and_then (λ namespace. option_and_then (λ attributes. option_map (λ listeners. DocElement tag namespace attributes listeners)
    (option_and_then names_in (items_at (codes "on") j))) (option_and_then attributes_in (items_at (codes "attrs") j)))
    (maybe_at (codes "ns") j)

-- the first that is there
abbrev pub either : {X : Type 0} → Option X → Option X → Option X
either None second = second
either (Some first) second = Some first

-- what a node is, without what is below it
abbrev pub content_in : Json → Option Content
content_in j =
    either (option_and_then (element_in j) (text_at (codes "el") j))
    (either (option_map DocText (text_at (codes "text") j)) (option_map (λ so. DocPlaceholder) (flag_at (codes "hole") j)))

-- a node in front of others
abbrev pub node_before : Json → Option Forest → Option Forest → Option Forest
node_before j below behind =
    option_and_then (λ id. option_and_then (λ content. option_and_then (λ children.
    option_map (λ rest. Node id content children rest) behind) below) (content_in j)) (number_at (codes "id") j)

-- the nodes below one are those of its member `kids`
abbrev pub below_or : Text → Option Forest → Option Forest → Option Forest
below_or name own later = if bytes_eq name (codes "kids") then own else later

abbrev mutual
  -- the nodes of a list
  pub nodes_in : Items → Option Forest
  nodes_in no_items = Some Empty
  nodes_in (item j js) = node_before j (below_in j) (nodes_in js)

  -- those below the node that an object is; those that a list is
  pub below_in : Json → Option Forest
  below_in null = None
  below_in (boolean so) = None
  below_in (number digits) = None
  below_in (string text) = None
  below_in (array js) = nodes_in js
  below_in (object ms) = kids_in ms

  pub kids_in : Members → Option Forest
  kids_in no_members = Some Empty
  kids_in (member name j ms) = below_or name (below_in j) (kids_in ms)

-- edits

-- an edit that puts nodes somewhere
abbrev pub forest_edit : (ℕ → Forest → Edit) → Json → ℕ → Option Edit
forest_edit make j id = option_map (make id) (option_and_then nodes_in (items_at (codes "nodes") j))

-- an edit of a listener
abbrev pub listener_edit : (ℕ → Text → Edit) → Json → ℕ → Option Edit
listener_edit make j id = option_map (make id) (text_at (codes "name") j)

-- an edit of an attribute
abbrev pub attribute_edit : Json → ℕ → Option Edit
attribute_edit j id =
    option_and_then (λ name. option_and_then (λ namespace. option_map (λ to. SetAttribute id name namespace to)
    (maybe_at (codes "value") j)) (maybe_at (codes "ns") j)) (text_at (codes "name") j)

-- an edit of this word that names this node
abbrev pub edit_of_word : Text → Json → ℕ → Option Edit
edit_of_word word j id =
    if bytes_eq word (codes "append") then forest_edit AppendChildren j id else
    (if bytes_eq word (codes "replace") then forest_edit ReplaceNodeWith j id else
    (if bytes_eq word (codes "after") then forest_edit InsertNodesAfter j id else
    (if bytes_eq word (codes "remove") then Some (RemoveNode id) else
    (if bytes_eq word (codes "text") then option_map (SetNodeText id) (text_at (codes "text") j) else
    (if bytes_eq word (codes "attr") then attribute_edit j id else
    (if bytes_eq word (codes "listen") then listener_edit CreateEventListener j id else
    (if bytes_eq word (codes "unlisten") then listener_edit RemoveEventListener j id else None)))))))

abbrev pub edit_in : Json → Option Edit
edit_in j = option_and_then (λ word. option_and_then (edit_of_word word j) (number_at (codes "id") j)) (text_at (codes "edit") j)

-- reports

-- an entry of this word and number
abbrev pub entry_of_word : Text → ℕ → Option Entry
entry_of_word word n =
    if bytes_eq word (codes "input") then Some (Taken n) else
    (if bytes_eq word (codes "heard") then Some (Heard n) else
    (if bytes_eq word (codes "rerun") then Some (Rerun n) else
    (if bytes_eq word (codes "poll") then Some (Poll n) else
    (if bytes_eq word (codes "effects") then Some (Effects n) else
    (if bytes_eq word (codes "made") then Some (Made n) else
    (if bytes_eq word (codes "fed") then Some (Fed n) else
    (if bytes_eq word (codes "kept") then Some (Kept n) else
    (if bytes_eq word (codes "removed") then Some (Removed n) else None))))))))

-- the entry that a member is: of another value than a number, the build
abbrev pub entry_at : Text → Json → Option Entry
entry_at word j = either (option_and_then (entry_of_word word) (number_in j)) (option_map (λ so. Build) (flag_in j))

-- the entry that an object is, by its first member
abbrev pub entry_in_members : Members → Option Entry
entry_in_members no_members = None
entry_in_members (member word j ms) = entry_at word j

abbrev pub entry_in : Json → Option Entry
entry_in null = None
entry_in (boolean so) = None
entry_in (number digits) = None
entry_in (string text) = None
entry_in (array js) = None
entry_in (object ms) = entry_in_members ms

abbrev pub log_in : Items → Option (List Entry)
log_in no_items = Some []
log_in (item j js) = option_and_then (λ entry. option_map (λ rest. entry ∷ rest) (log_in js)) (entry_in j)

-- a report of these counts, whether the default goes on, and this log
abbrev pub report_of : ℕ → ℕ → ℕ → Bool → List Entry → Report
report_of units bodies edits default_enabled log =
    record { log = log; units = units; bodies = bodies; edits = edits; default_enabled = default_enabled }

abbrev pub report_in : Json → Option Report
report_in j =
    option_and_then (λ units. option_and_then (λ bodies. option_and_then (λ edits. option_and_then (λ default_enabled.
    option_map (report_of units bodies edits default_enabled) (option_and_then log_in (items_at (codes "log") j)))
    (flag_at (codes "default") j)) (number_at (codes "edits") j)) (number_at (codes "bodies") j)) (number_at (codes "units") j)

-- faults

-- a counter by its name
abbrev pub counter_in : Text → Option Counter
counter_in name =
    if bytes_eq name (counter_text Scopes) then Some Scopes else
    (if bytes_eq name (counter_text Tasks) then Some Tasks else
    (if bytes_eq name (counter_text Cells) then Some Cells else
    (if bytes_eq name (counter_text Contexts) then Some Contexts else
    (if bytes_eq name (counter_text Elements) then Some Elements else
    (if bytes_eq name (counter_text Errors) then Some Errors else
    (if bytes_eq name (counter_text Renders) then Some Renders else None))))))

abbrev pub hook_fault : Json → Option Fault
hook_fault j =
    option_and_then (λ scope. option_and_then (λ index. option_and_then (λ kept. option_map (λ asked. HookChanged scope index kept asked)
    (number_at (codes "asked") j)) (number_at (codes "kept") j)) (number_at (codes "index") j)) (number_at (codes "scope") j)

-- a fault of this name
abbrev pub fault_of_name : Json → Text → Option Fault
fault_of_name j name =
    if bytes_eq name (codes "OutOfTurns") then option_map OutOfTurns (number_at (codes "units") j) else
    (if bytes_eq name (codes "TooDeep") then option_map TooDeep (number_at (codes "height") j) else
    (if bytes_eq name (codes "IdsExhausted") then option_map IdsExhausted (option_and_then counter_in (text_at (codes "what") j)) else
    (if bytes_eq name (codes "HookChanged") then hook_fault j else
    (if bytes_eq name (codes "NoSuchTask") then
    option_and_then (λ scope. option_map (NoSuchTask scope) (number_at (codes "task") j)) (number_at (codes "scope") j) else
    (if bytes_eq name (codes "BadNode") then option_map BadNode (number_at (codes "scope") j) else None)))))

abbrev pub fault_in : Json → Option Fault
fault_in j = option_and_then (fault_of_name j) (text_at (codes "name") j)

-- lines

-- what an object tells that is no edit
abbrev pub else_told : Json → Option Told
else_told j =
    either (option_and_then (λ n. option_map (ToldReport n) (report_in j)) (number_at (codes "report") j))
    (either (option_and_then (λ n. option_map ToldFault (fault_in j)) (number_at (codes "fault") j))
    (option_map (λ so. ToldRefusal) (flag_at (codes "refused") j)))

-- what an object tells: which member it has says what it is
abbrev pub told_in : Json → Option Told
told_in j = either (option_and_then (λ word. option_map ToldEdit (edit_in j)) (text_at (codes "edit") j)) (else_told j)

-- the one value that a text is, however deep it is
abbrev pub json_in : Text → Option Json
json_in text = option_and_then (λ p. if_last p.0 p.1) (value (length (tokens text)) (tokens text))

-- what a text of JSON tells
abbrev pub told_by : Text → Option Told
told_by text = option_and_then told_in (json_in text)
