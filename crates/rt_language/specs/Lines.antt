-- The printed lines of edits, reports and faults.
use Rattle.std.specs.Prelude.{ℕ, ◌+◌, List, [], ◌∷◌, ◌++◌, map, codes, decimal, Option, Some, None}
use Rattle.std.specs.List.{flat_map}
use Rattle.json.specs.Print.{quoted}
use Rattle.rt_model.specs.Lists.{Text, joined}
use Rattle.rt_model.specs.World.{Counter, Scopes, Tasks, Cells, Contexts, Elements, Errors, Renders}
use Rattle.rt_model.specs.State.{Fault, OutOfTurns, TooDeep, IdsExhausted, HookChanged, NoSuchTask, BadNode}
use Rattle.rt_model.specs.Document.{DocAttribute, Content, DocElement, DocText, DocPlaceholder, Forest, Empty, Node, Edit, AppendChildren, ReplaceNodeWith, InsertNodesAfter, RemoveNode, SetNodeText, SetAttribute, CreateEventListener, RemoveEventListener}
use Rattle.rt_model.specs.Replay.{Entry, Build, Taken, Heard, Rerun, Poll, Effects, Made, Fed, Kept, Removed, Post, MarkScope, WakeTask, AllDirty, Message}
use Rattle.rt_model.specs.Reports.{Report}

-- nodes

-- `#` and a number
abbrev pub numbered : ℕ → Text
numbered number = codes "#" ++ decimal number

-- texts in a row, each with a space before it
abbrev pub spaced : List Text → Text
spaced texts = flat_map (λ text. 32 ∷ text) texts

-- a name, with its namespace and `:` before it where it has one
abbrev pub qualified : Option Text → Text → Text
qualified None name = name
qualified (Some namespace) name = namespace ++ codes ":" ++ name

-- an attribute with its value
abbrev pub attribute_text : DocAttribute → Text
attribute_text a = qualified a.namespace a.name ++ codes "=" ++ quoted a.value

-- the name of a listener
abbrev pub listener_text : Text → Text
listener_text name = codes "@" ++ name

-- a node of this content and number, where the texts of its children are known
abbrev pub node_text : ℕ → Content → List Text → Text
node_text number (DocElement tag namespace attributes listeners) children =
    codes "(" ++ qualified namespace tag ++ numbered number ++ spaced (map attribute_text attributes)
    ++ spaced (map listener_text listeners) ++ spaced children ++ codes ")"
node_text number (DocText text) children = quoted text ++ numbered number
node_text number DocPlaceholder children = codes "_" ++ numbered number

-- the texts of nodes in a row, each with the nodes below it
abbrev pub node_texts : Forest → List Text
node_texts Empty = []
node_texts (Node number content children rest) = node_text number content (node_texts children) ∷ node_texts rest

-- edits

-- what an attribute becomes
abbrev pub value_text : Option Text → Text
value_text None = codes " none"
value_text (Some value) = codes "=" ++ quoted value

-- an edit, without the end of its line
abbrev pub edit_text : Edit → Text
edit_text (AppendChildren id nodes) = codes "append " ++ numbered id ++ spaced (node_texts nodes)
edit_text (ReplaceNodeWith id nodes) = codes "replace " ++ numbered id ++ spaced (node_texts nodes)
edit_text (InsertNodesAfter id nodes) = codes "after " ++ numbered id ++ spaced (node_texts nodes)
edit_text (RemoveNode id) = codes "remove " ++ numbered id
edit_text (SetNodeText id text) = codes "text " ++ numbered id ++ codes " " ++ quoted text
edit_text (SetAttribute id name namespace value) =
    codes "attr " ++ numbered id ++ codes " " ++ qualified namespace name ++ value_text value
edit_text (CreateEventListener id name) = codes "listen " ++ numbered id ++ codes " " ++ name
edit_text (RemoveEventListener id name) = codes "unlisten " ++ numbered id ++ codes " " ++ name

-- a line of its text
abbrev pub line : Text → Text
line text = text ++ codes "\n"

-- the lines of edits, in order
abbrev pub edit_lines : List Edit → List Text
edit_lines [] = []
edit_lines (e ∷ es) = line (edit_text e) ∷ edit_lines es

-- reports

-- the word of an entry
abbrev pub entry_text : Entry → Text
entry_text Build = codes "build"
entry_text (Taken k) = codes "input:" ++ decimal k
entry_text (Heard s) = codes "heard:" ++ decimal s
entry_text (Rerun s) = codes "rerun:" ++ decimal s
entry_text (Poll t) = codes "poll:" ++ decimal t
entry_text (Effects s) = codes "effects:" ++ decimal s
entry_text (Made s) = codes "made:" ++ decimal s
entry_text (Fed s) = codes "fed:" ++ decimal s
entry_text (Kept s) = codes "kept:" ++ decimal s
entry_text (Removed s) = codes "removed:" ++ decimal s

-- what a report counts, with its number before it
abbrev pub counts_text : ℕ → Report → Text
counts_text number report =
    codes "report " ++ decimal number ++ codes " units " ++ decimal report.units ++ codes " bodies " ++ decimal report.bodies
    ++ codes " edits " ++ decimal report.edits

-- the line of a report
abbrev pub report_line : ℕ → Report → Text
report_line number report = line (counts_text number report ++ codes " log" ++ spaced (map entry_text report.log))

-- the lines of reports, the first of which has this number
abbrev pub report_lines : ℕ → List Report → List Text
report_lines number [] = []
report_lines number (report ∷ reports) = report_line number report ∷ report_lines (number + 1) reports

-- faults

-- the name of a counter
abbrev pub counter_text : Counter → Text
counter_text Scopes = codes "scopes"
counter_text Tasks = codes "tasks"
counter_text Cells = codes "cells"
counter_text Contexts = codes "contexts"
counter_text Elements = codes "elements"
counter_text Errors = codes "errors"
counter_text Renders = codes "renders"

-- a fault, without the end of its line
abbrev pub fault_text : Fault → Text
fault_text (OutOfTurns units) = codes "fault 3 OutOfTurns " ++ decimal units
fault_text (TooDeep height) = codes "fault 4 TooDeep " ++ decimal height
fault_text (IdsExhausted what) = codes "fault 5 IdsExhausted " ++ counter_text what
fault_text (HookChanged scope index kept asked) =
    codes "fault 6 HookChanged " ++ decimal scope ++ codes " " ++ decimal index ++ codes " " ++ decimal kept ++ codes " "
    ++ decimal asked
fault_text (NoSuchTask scope task) = codes "fault 7 NoSuchTask " ++ decimal scope ++ codes " " ++ decimal task
fault_text (BadNode scope) = codes "fault 8 BadNode " ++ decimal scope

-- messages

-- what a message asks for
abbrev pub post_text : Post → Text
post_text (MarkScope s) = codes "mark:" ++ decimal s
post_text (WakeTask t) = codes "wake:" ++ decimal t
post_text AllDirty = codes "all"

-- a message that the drain of the report with this number took, without the end of its line
abbrev pub taken_text : ℕ → Message → Text
taken_text report m =
    codes "taken " ++ decimal report ++ codes " " ++ decimal m.poster ++ codes ":" ++ decimal m.sequence ++ codes " " ++ post_text m.what

-- the edits that were taken, and then the reports
abbrev pub text_of : List Edit → List Report → Text
text_of edits reports = joined (edit_lines edits) ++ joined (report_lines 0 reports)

-- the same with the line of a fault at its end
abbrev pub fault_text_of : List Edit → List Report → Fault → Text
fault_text_of edits reports fault = text_of edits reports ++ line (fault_text fault)
