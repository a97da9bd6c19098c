-- An edit, a report, a fault and a refusal as an object of JSON, and the line that is written of it.
use Rattle.std.specs.Prelude.{ℕ, true, List, [], ◌∷◌, codes, decimal, Option, Some, None}
use Rattle.json.specs.Json.{Json, null, boolean, number, string, array, object, Items, no_items, item, Members, no_members, member}
use Rattle.json.specs.Print.{print}
use Rattle.json.specs.Tree.{json_tokens}
use Rattle.rt_language.specs.Lines.{counter_text, line}
use Rattle.rt_model.specs.Document.{DocAttribute, Content, DocElement, DocText, DocPlaceholder, Forest, Empty, Node, Edit, AppendChildren, ReplaceNodeWith, InsertNodesAfter, RemoveNode, SetNodeText, SetAttribute, CreateEventListener, RemoveEventListener}
use Rattle.rt_model.specs.Lists.{Text}
use Rattle.rt_model.specs.Replay.{Entry, Build, Taken, Heard, Rerun, Poll, Effects, Made, Fed, Kept, Removed}
use Rattle.rt_model.specs.Reports.{Report}
use Rattle.rt_model.specs.State.{Fault, OutOfTurns, TooDeep, IdsExhausted, HookChanged, NoSuchTask, BadNode}
use Rattle.show_answers.specs.Told.{Form, Told, ToldEdit, ToldFault, ToldRefusal, ToldReport}

-- members

-- a member that is a number, before others
abbrev pub counted : Text → ℕ → Members → Members
counted name n more = member name (number (decimal n)) more

-- a member that is a text
abbrev pub worded : Text → Text → Members → Members
worded name text more = member name (string text) more

-- a text, or null
abbrev pub maybe_json : Option Text → Json
maybe_json None = null
maybe_json (Some text) = string text

-- a member that is a text or null
abbrev pub maybe : Text → Option Text → Members → Members
maybe name text more = member name (maybe_json text) more

-- nodes

-- an attribute with its value
abbrev pub attribute_json : DocAttribute → Json
attribute_json a = object (worded (codes "name") a.name (maybe (codes "ns") a.namespace (worded (codes "value") a.value no_members)))

abbrev pub attribute_items : List DocAttribute → Items
attribute_items [] = no_items
attribute_items (a ∷ attributes) = item (attribute_json a) (attribute_items attributes)

-- the names of listeners
abbrev pub name_items : List Text → Items
name_items [] = no_items
name_items (name ∷ names) = item (string name) (name_items names)

-- a node of this content and number, where the objects of its children are known
abbrev pub node_json : ℕ → Content → Items → Json
node_json id (DocElement tag namespace attributes listeners) kids =
    object (worded (codes "el") tag (maybe (codes "ns") namespace (counted (codes "id") id
    (member (codes "attrs") (array (attribute_items attributes)) (member (codes "on") (array (name_items listeners))
    (member (codes "kids") (array kids) no_members))))))
node_json id (DocText text) kids = object (worded (codes "text") text (counted (codes "id") id no_members))
node_json id DocPlaceholder kids = object (member (codes "hole") (boolean true) (counted (codes "id") id no_members))

-- the objects of nodes in a row, each with the nodes below it
abbrev pub node_items : Forest → Items
node_items Empty = no_items
node_items (Node id content children rest) = item (node_json id content (node_items children)) (node_items rest)

-- edits

-- an edit with its word and the number of the node that it names, before what else it says
abbrev pub edit_with : Text → ℕ → Members → Json
edit_with word id more = object (worded (codes "edit") word (counted (codes "id") id more))

-- an edit that puts nodes somewhere
abbrev pub forest_json : Text → ℕ → Forest → Json
forest_json word id nodes = edit_with word id (member (codes "nodes") (array (node_items nodes)) no_members)

-- an edit of a listener
abbrev pub listener_json : Text → ℕ → Text → Json
listener_json word id name = edit_with word id (worded (codes "name") name no_members)

abbrev pub edit_json : Edit → Json
edit_json (AppendChildren id nodes) = forest_json (codes "append") id nodes
edit_json (ReplaceNodeWith id nodes) = forest_json (codes "replace") id nodes
edit_json (InsertNodesAfter id nodes) = forest_json (codes "after") id nodes
edit_json (RemoveNode id) = edit_with (codes "remove") id no_members
edit_json (SetNodeText id text) = edit_with (codes "text") id (worded (codes "text") text no_members)
edit_json (SetAttribute id name namespace value) =
    edit_with (codes "attr") id (worded (codes "name") name (maybe (codes "ns") namespace (maybe (codes "value") value no_members)))
edit_json (CreateEventListener id name) = listener_json (codes "listen") id name
edit_json (RemoveEventListener id name) = listener_json (codes "unlisten") id name

-- reports

-- an entry by its word and number
abbrev pub entry_with : Text → ℕ → Json
entry_with word n = object (counted word n no_members)

abbrev pub entry_json : Entry → Json
entry_json Build = object (member (codes "build") (boolean true) no_members)
entry_json (Taken k) = entry_with (codes "input") k
entry_json (Heard s) = entry_with (codes "heard") s
entry_json (Rerun s) = entry_with (codes "rerun") s
entry_json (Poll t) = entry_with (codes "poll") t
entry_json (Effects s) = entry_with (codes "effects") s
entry_json (Made s) = entry_with (codes "made") s
entry_json (Fed s) = entry_with (codes "fed") s
entry_json (Kept s) = entry_with (codes "kept") s
entry_json (Removed s) = entry_with (codes "removed") s

abbrev pub entry_items : List Entry → Items
entry_items [] = no_items
entry_items (entry ∷ log) = item (entry_json entry) (entry_items log)

-- a report with its number
abbrev pub report_json : ℕ → Report → Json
report_json n report =
    object (counted (codes "report") n (counted (codes "units") report.units (counted (codes "bodies") report.bodies
    (counted (codes "edits") report.edits (member (codes "default") (boolean report.default_enabled)
    (member (codes "log") (array (entry_items report.log)) no_members))))))

-- faults

-- a fault with its number and name, before what else it says
abbrev pub fault_with : ℕ → Text → Members → Json
fault_with n name more = object (counted (codes "fault") n (worded (codes "name") name more))

abbrev pub fault_json : Fault → Json
fault_json (OutOfTurns units) = fault_with 3 (codes "OutOfTurns") (counted (codes "units") units no_members)
fault_json (TooDeep height) = fault_with 4 (codes "TooDeep") (counted (codes "height") height no_members)
fault_json (IdsExhausted what) = fault_with 5 (codes "IdsExhausted") (worded (codes "what") (counter_text what) no_members)
fault_json (HookChanged scope index kept asked) =
    fault_with 6 (codes "HookChanged") (counted (codes "scope") scope (counted (codes "index") index
    (counted (codes "kept") kept (counted (codes "asked") asked no_members))))
fault_json (NoSuchTask scope task) =
    fault_with 7 (codes "NoSuchTask") (counted (codes "scope") scope (counted (codes "task") task no_members))
fault_json (BadNode scope) = fault_with 8 (codes "BadNode") (counted (codes "scope") scope no_members)

-- lines

-- what is told
abbrev pub told_json : Told → Json
told_json (ToldEdit edit) = edit_json edit
told_json (ToldReport n report) = report_json n report
told_json (ToldFault fault) = fault_json fault
told_json ToldRefusal = object (member (codes "refused") (boolean true) no_members)

-- the text of an object
abbrev pub json_text : Json → Text
json_text j = print (json_tokens j)

-- as a line of JSON
abbrev pub object_form : Form
object_form told = line (json_text (told_json told))
