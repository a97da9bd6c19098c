-- What each edit makes of a document, and when it is refused.
use Rattle.std.specs.Prelude.{◌≡◌, ℕ, Bool, true, false, not, ◌&&◌, ◌||◌, ◌==◌, nat_lt, if◌then◌else◌, List, [], ◌∷◌, ◌++◌, Option, Some, None, is_some, Result, Ok, Err}
use Rattle.std.specs.List.{list_any}
use Rattle.rt_edits.specs.Nodes.{Parts, parts_of, element_of, is_text, numbers, has, times, found, changed}
use Rattle.rt_edits.specs.Ordered.{text_order, attribute_order, put_in, taken_out, place_of}
use Rattle.rt_edits.specs.declared.doc_node.DocAttr.{DocAttr}
use Rattle.rt_edits.specs.declared.doc_node.DocNode.{DocNode}
use Rattle.rt_edits.specs.declared.doc_node.DocKind.{DocKind}
use Rattle.rt_edits.specs.declared.doc_node.DocKind.TheVariants as kinds
use Rattle.rt_edits.specs.declared.edit.Edit.{Edit}
use Rattle.rt_edits.specs.declared.edit.Edit.TheVariants as edits
use Rattle.rt_edits.specs.declared.document.DocFault.{DocFault}
use Rattle.rt_edits.specs.declared.document.DocFault.TheVariants as faults

-- the number of the node that an edit names
abbrev pub named : Edit → ℕ
named (edits.AppendChildren id nodes) = id.0
named (edits.ReplaceNodeWith id nodes) = id.0
named (edits.InsertNodesAfter id nodes) = id.0
named (edits.RemoveNode id) = id.0
named (edits.SetNodeText id text) = id.0
named (edits.SetAttribute id name namespace value) = id.0
named (edits.CreateEventListener id name) = id.0
named (edits.RemoveEventListener id name) = id.0

-- the nodes that an edit carries
abbrev pub carried : Edit → List DocNode
carried (edits.AppendChildren id nodes) = nodes
carried (edits.ReplaceNodeWith id nodes) = nodes
carried (edits.InsertNodesAfter id nodes) = nodes
carried (edits.RemoveNode id) = []
carried (edits.SetNodeText id text) = []
carried (edits.SetAttribute id name namespace value) = []
carried (edits.CreateEventListener id name) = []
carried (edits.RemoveEventListener id name) = []

-- whether an edit is an append, which alone may name the root container
abbrev pub is_append : Edit → Bool
is_append (edits.AppendChildren id nodes) = true
is_append (edits.ReplaceNodeWith id nodes) = false
is_append (edits.InsertNodesAfter id nodes) = false
is_append (edits.RemoveNode id) = false
is_append (edits.SetNodeText id text) = false
is_append (edits.SetAttribute id name namespace value) = false
is_append (edits.CreateEventListener id name) = false
is_append (edits.RemoveEventListener id name) = false

-- whether a node is an element
abbrev pub is_element : DocKind → Bool
is_element kind = is_some (parts_of kind)

-- whether an element listens to events of a name
abbrev pub listens : List ℕ → Option Parts → Bool
listens name None = false
listens name (Some parts) = is_some (place_of (text_order name) parts.listeners)

-- whether an edit may be made of a node of this kind
abbrev pub suits : Edit → DocKind → Bool
suits (edits.AppendChildren id nodes) kind = is_element kind
suits (edits.ReplaceNodeWith id nodes) kind = true
suits (edits.InsertNodesAfter id nodes) kind = true
suits (edits.RemoveNode id) kind = true
suits (edits.SetNodeText id text) kind = is_text kind
suits (edits.SetAttribute id name namespace value) kind = is_element kind
suits (edits.CreateEventListener id name) kind = is_element kind && not (listens name (parts_of kind))
suits (edits.RemoveEventListener id name) kind = listens name (parts_of kind)

-- an attribute of a value, or none
abbrev pub valued : List ℕ → Option (List ℕ) → Option (List ℕ) → List DocAttr → List DocAttr
valued name namespace None attrs = taken_out (attribute_order name namespace) attrs
valued name namespace (Some value) attrs =
    put_in (attribute_order name namespace) (record { name = name; namespace = namespace; value = value }) attrs

-- an element after an edit of itself
abbrev pub parts_after : Edit → Parts → Parts
parts_after (edits.AppendChildren id nodes) parts = record parts { children = parts.children ++ nodes }
parts_after (edits.ReplaceNodeWith id nodes) parts = parts
parts_after (edits.InsertNodesAfter id nodes) parts = parts
parts_after (edits.RemoveNode id) parts = parts
parts_after (edits.SetNodeText id text) parts = parts
parts_after (edits.SetAttribute id name namespace value) parts = record parts { attrs = valued name namespace value parts.attrs }
parts_after (edits.CreateEventListener id name) parts = record parts { listeners = put_in (text_order name) name parts.listeners }
parts_after (edits.RemoveEventListener id name) parts = record parts { listeners = taken_out (text_order name) parts.listeners }

-- the element of changed parts, where there are parts
abbrev pub remade : (Parts → Parts) → DocKind → Option Parts → DocKind
remade change kind None = kind
remade change kind (Some parts) = element_of (change parts)

-- a node's kind with its parts changed, where it is an element
abbrev pub within : (Parts → Parts) → DocKind → DocKind
within change kind = remade change kind (parts_of kind)

-- a node's kind after an edit of the node itself
abbrev pub kind_after : Edit → DocKind → DocKind
kind_after (edits.AppendChildren id nodes) kind = within (parts_after (edits.AppendChildren id nodes)) kind
kind_after (edits.ReplaceNodeWith id nodes) kind = kind
kind_after (edits.InsertNodesAfter id nodes) kind = kind
kind_after (edits.RemoveNode id) kind = kind
kind_after (edits.SetNodeText id text) kind = kinds.Text text
kind_after (edits.SetAttribute id name namespace value) kind = within (parts_after (edits.SetAttribute id name namespace value)) kind
kind_after (edits.CreateEventListener id name) kind = within (parts_after (edits.CreateEventListener id name)) kind
kind_after (edits.RemoveEventListener id name) kind = within (parts_after (edits.RemoveEventListener id name)) kind

-- a node after an edit of the node itself
abbrev pub node_after : Edit → DocNode → DocNode
node_after edit node = record { id = node.id; kind = kind_after edit node.kind }

-- what stands in the place of the named node after an edit
abbrev pub instead : Edit → DocNode → List DocNode
instead (edits.AppendChildren id nodes) node = node_after (edits.AppendChildren id nodes) node ∷ []
instead (edits.ReplaceNodeWith id nodes) node = nodes
instead (edits.InsertNodesAfter id nodes) node = node ∷ nodes
instead (edits.RemoveNode id) node = []
instead (edits.SetNodeText id text) node = node_after (edits.SetNodeText id text) node ∷ []
instead (edits.SetAttribute id name namespace value) node = node_after (edits.SetAttribute id name namespace value) node ∷ []
instead (edits.CreateEventListener id name) node = node_after (edits.CreateEventListener id name) node ∷ []
instead (edits.RemoveEventListener id name) node = node_after (edits.RemoveEventListener id name) node ∷ []

-- an edit names neither the root container nor a node
abbrev pub is_unknown : Edit → List DocNode → Bool
is_unknown edit document = not (named edit == 0) && not (is_some (found (named edit) document))

-- an edit can't be made of the node that was found
abbrev pub unsuited : Edit → Option DocKind → Bool
unsuited edit None = false
unsuited edit (Some kind) = not (suits edit kind)

-- an edit can't be made of what it names
abbrev pub is_wrong : Edit → List DocNode → Bool
is_wrong edit document = if named edit == 0 then not (is_append edit) else unsuited edit (found (named edit) document)

-- a number that no node may bring: 0, one of the document, or one that comes twice
abbrev pub is_barred : List ℕ → List ℕ → ℕ → Bool
is_barred document brought number = number == 0 || (has number document || nat_lt 1 (times number brought))

-- a carried number is barred
abbrev pub repeats : Edit → List DocNode → Bool
repeats edit document = list_any (is_barred (numbers document) (numbers (carried edit))) (numbers (carried edit))

-- the first fault of an edit other than want of memory
abbrev pub fault_of : Edit → List DocNode → Option DocFault
fault_of edit document =
    if is_unknown edit document then Some faults.UnknownId
    else (if is_wrong edit document then Some faults.WrongKind
    else (if repeats edit document then Some faults.RepeatedId else None))

-- the document after an edit that has no fault
abbrev pub after : Edit → List DocNode → List DocNode
after edit document = if named edit == 0 then document ++ carried edit else changed (named edit) (instead edit) document

-- what was made, unless there is a fault
abbrev pub unless : Option DocFault → List DocNode → Result (List DocNode) DocFault
unless None made = Ok made
unless (Some fault) made = Err fault

-- the document after an edit, or its first fault
abbrev pub apply : Edit → List DocNode → Result (List DocNode) DocFault
apply edit document = unless (fault_of edit document) (after edit document)

-- an edit may be refused with this fault: for want of memory where it has none, else with its own
abbrev pub MayFail : Edit → List DocNode → DocFault → Type 0
MayFail edit document faults.OutOfMemory = fault_of edit document ≡ None
MayFail edit document faults.UnknownId = fault_of edit document ≡ Some faults.UnknownId
MayFail edit document faults.WrongKind = fault_of edit document ≡ Some faults.WrongKind
MayFail edit document faults.RepeatedId = fault_of edit document ≡ Some faults.RepeatedId
