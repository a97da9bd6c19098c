-- The mirror of nodes, node by node.
use Rattle.std.proofs.Common.{ℕ, List, [], ◌∷◌, ◌++◌, map, ◌≡◌, refl, ap, ◌∙◌}
use Rattle.std.specs.Prelude.{Option}
use mathlib.Core.Former.{Count}
use Rattle.rt_edits.specs.declared.doc_node.DocNode.{DocNode}
use Rattle.rt_edits.specs.declared.doc_node.DocAttr.{DocAttr}
use Rattle.rt_edits.specs.declared.doc_node.DocKind.{DocKind, Element', Row_of-DocNode, end_of-DocNode, more_of-DocNode, items-the_row-DocNode, items_hidden-the_row-DocNode-0}
use Rattle.rt_edits.specs.declared.doc_node.DocKind.TheVariants.{Element, Text, Placeholder}
use Rattle.rt_model.specs.Document.{Forest, Node, Empty, DocElement, join_rows}
use Rattle.tree_edits.specs.Documents.{doc_attribute_of, content_of, forest_below, forest_in, forest_of}

abbrev row_behind : DocKind → (n : Count) × Row_of-DocNode n
row_behind (Element' tag namespace attrs listeners _ row) = (_, row)
row_behind _ = (_, end_of-DocNode)

pub forest_row : (n : _) (row : Row_of-DocNode n) → forest_in row ≡ forest_of (items-the_row-DocNode n row)
unfolding forest_below forest_in
forest_row n end_of-DocNode = refl
forest_row n (more_of-DocNode id kind rest) =
    ap (λ (later : Forest). Node id.0 (content_of kind) (forest_below kind) later) (forest_row _ rest)

pub below_Element : (tag : List ℕ) (namespace : Option (List ℕ)) (attrs : List DocAttr) (listeners : List (List ℕ))
    (children : List DocNode)
    → forest_below (Element tag namespace attrs listeners children) ≡ forest_of children
unfolding forest_below forest_in
below_Element tag namespace attrs listeners children =
    let row = row_behind (Element tag namespace attrs listeners children) in
    forest_row row.0 row.1 ∙ ap forest_of (items_hidden-the_row-DocNode-0 children)

pub content_Element : (tag : List ℕ) (namespace : Option (List ℕ)) (attrs : List DocAttr) (listeners : List (List ℕ))
    (children : List DocNode)
    → content_of (Element tag namespace attrs listeners children) ≡ DocElement tag namespace (map doc_attribute_of attrs) listeners
unfolding content_of
content_Element tag namespace attrs listeners children = refl

pub forest-append : (a b : List DocNode) → forest_of (a ++ b) ≡ join_rows (forest_of a) (forest_of b)
forest-append [] b = refl
forest-append (x ∷ a) b = ap (λ later. Node x.id.0 (content_of x.kind) (forest_below x.kind) later) (forest-append a b)
