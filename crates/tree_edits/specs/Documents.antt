-- Nodes of the document and edits, as the definitions have them.
use Rattle.std.specs.Prelude.{List, [], ◌∷◌, map}
use Rattle.rt_edits.specs.declared.doc_node.DocAttr.{DocAttr}
use Rattle.rt_edits.specs.declared.doc_node.DocNode.{DocNode}
use Rattle.rt_edits.specs.declared.doc_node.DocKind.{DocKind, Element', Text, Placeholder, Row_of-DocNode, end_of-DocNode, more_of-DocNode}
use Rattle.rt_edits.specs.declared.edit.Edit.{Edit}
use Rattle.rt_edits.specs.declared.edit.Edit.TheVariants as edits
use Rattle.rt_model.specs.Document as doc
use Rattle.rt_model.specs.Document.{Forest, Empty, Node, Content, DocElement, DocText, DocPlaceholder}

-- an attribute of a node of the document
abbrev pub doc_attribute_of : DocAttr → doc.DocAttribute
doc_attribute_of a = record { name = a.name; namespace = a.namespace; value = a.value }

-- what a node of the document is, without what is below it
unfoldable pub content_of : DocKind → Content
content_of (Element' tag namespace attrs listeners shape row) = DocElement tag namespace (map doc_attribute_of attrs) listeners
content_of (Text text) = DocText text
content_of Placeholder = DocPlaceholder

-- the nodes below one of the document
unfoldable mutual
  -- below a node of this kind
  pub forest_below : DocKind → Forest
  forest_below (Element' tag namespace attrs listeners shape row) = forest_in row
  forest_below (Text text) = Empty
  forest_below Placeholder = Empty

  -- in what is left of a row of nodes
  pub forest_in : {m : _} → Row_of-DocNode m → Forest
  forest_in end_of-DocNode = Empty
  forest_in (more_of-DocNode id kind rest) = Node id.0 (content_of kind) (forest_below kind) (forest_in rest)

-- nodes of the document as a forest
abbrev pub forest_of : List DocNode → Forest
forest_of [] = Empty
forest_of (node ∷ nodes) = Node node.id.0 (content_of node.kind) (forest_below node.kind) (forest_of nodes)

-- an edit
abbrev pub edit_of : Edit → doc.Edit
edit_of (edits.AppendChildren id nodes) = doc.AppendChildren id.0 (forest_of nodes)
edit_of (edits.ReplaceNodeWith id nodes) = doc.ReplaceNodeWith id.0 (forest_of nodes)
edit_of (edits.InsertNodesAfter id nodes) = doc.InsertNodesAfter id.0 (forest_of nodes)
edit_of (edits.RemoveNode id) = doc.RemoveNode id.0
edit_of (edits.SetNodeText id text) = doc.SetNodeText id.0 text
edit_of (edits.SetAttribute id name namespace value) = doc.SetAttribute id.0 name namespace value
edit_of (edits.CreateEventListener id name) = doc.CreateEventListener id.0 name
edit_of (edits.RemoveEventListener id name) = doc.RemoveEventListener id.0 name
