-- What the mirror of a node of the document says of an element, a text and a placeholder.
use Rattle.std.proofs.Common.{ℕ, List, map, ◌++◌, ◌≡◌, refl, ap, ◌∙◌}
use Rattle.std.specs.Prelude.{Option, codes}
use mathlib.Core.Former.{Count}
use Rattle.rt_edits.specs.declared.doc_node.DocAttr.{DocAttr}
use Rattle.rt_edits.specs.declared.doc_node.DocNode.{DocNode}
use Rattle.rt_edits.specs.declared.doc_node.DocKind.{DocKind, Element', Row_of-DocNode, end_of-DocNode, more_of-DocNode, items-the_row-DocNode, items_hidden-the_row-DocNode-0}
use Rattle.rt_edits.specs.declared.doc_node.DocKind.TheVariants.{Element, Text, Placeholder}
use Rattle.json.specs.Print.{quoted}
use Rattle.rt_language.specs.Lines.{numbered, node_text, node_texts}
use Rattle.rt_model.specs.Document.{Forest, Content, Node, DocElement, DocText, DocPlaceholder}
use Rattle.tree_edits.specs.Documents.{doc_attribute_of, content_of, forest_below, forest_in, forest_of}

abbrev row_behind : DocKind → (n : Count) × Row_of-DocNode n
row_behind (Element' tag namespace attrs listeners _ row) = (_, row)
row_behind _ = (_, end_of-DocNode)

forest_row : (n : _) (row : Row_of-DocNode n) → forest_in row ≡ forest_of (items-the_row-DocNode n row)
unfolding forest_below forest_in
forest_row n end_of-DocNode = refl
forest_row n (more_of-DocNode id kind rest) = ap (λ (later : Forest). Node id.0 (content_of kind) (forest_below kind) later) (forest_row _ rest)

-- below an element stand its children
pub below-Element : (tag : List ℕ) (namespace : Option (List ℕ)) (attrs : List DocAttr) (listeners : List (List ℕ)) (children : List DocNode) →
    forest_below (Element tag namespace attrs listeners children) ≡ forest_of children
unfolding forest_below forest_in
below-Element tag namespace attrs listeners children =
    let row = row_behind (Element tag namespace attrs listeners children) in
    forest_row row.0 row.1 ∙ ap forest_of (items_hidden-the_row-DocNode-0 children)

pub content-Element : (tag : List ℕ) (namespace : Option (List ℕ)) (attrs : List DocAttr) (listeners : List (List ℕ)) (children : List DocNode) →
    content_of (Element tag namespace attrs listeners children) ≡ DocElement tag namespace (map doc_attribute_of attrs) listeners
unfolding content_of
content-Element tag namespace attrs listeners children = refl

pub content-Text : (text : List ℕ) → content_of (Text text) ≡ DocText text
unfolding content_of
content-Text text = refl

pub content-Placeholder : content_of Placeholder ≡ DocPlaceholder
unfolding content_of
content-Placeholder = refl

-- the text of an element, of a text and of a placeholder
pub shown-Element : (number : ℕ) (tag : List ℕ) (namespace : Option (List ℕ)) (attrs : List DocAttr) (listeners : List (List ℕ)) (children : List DocNode) →
    node_text number (content_of (Element tag namespace attrs listeners children)) (node_texts (forest_below (Element tag namespace attrs listeners children)))
    ≡ node_text number (DocElement tag namespace (map doc_attribute_of attrs) listeners) (node_texts (forest_of children))
shown-Element number tag namespace attrs listeners children =
    λ t. node_text number (content-Element tag namespace attrs listeners children t) (node_texts (below-Element tag namespace attrs listeners children t))

pub shown-Text : (number : ℕ) (text : List ℕ) → node_text number (content_of (Text text)) (node_texts (forest_below (Text text))) ≡ quoted text ++ numbered number
shown-Text number text = ap (λ (content : Content). node_text number content (node_texts (forest_below (Text text)))) (content-Text text)

pub shown-Placeholder : (number : ℕ) → node_text number (content_of Placeholder) (node_texts (forest_below Placeholder)) ≡ codes "_" ++ numbered number
shown-Placeholder number = ap (λ (content : Content). node_text number content (node_texts (forest_below Placeholder))) content-Placeholder
