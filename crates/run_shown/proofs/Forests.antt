-- Nodes of the document as a forest, node by node.
use Rattle.std.proofs.Common.{ℕ, suc, ◌-◌, List, [], ◌∷◌, ◌++◌, ◌≡◌, refl, ap, ◌∙◌, length, arith}
use Rattle.std.specs.Prelude.{Option, Some, slice_get}
use mathlib.Core.Former.{Count}
use Rattle.rt_edits.specs.declared.doc_node.DocNode.{DocNode}
use Rattle.rt_edits.specs.declared.doc_node.DocAttr.{DocAttr}
use Rattle.rt_edits.specs.declared.doc_node.DocKind.{DocKind, Element', Row_of-DocNode, end_of-DocNode, more_of-DocNode, items-the_row-DocNode, items_hidden-the_row-DocNode-0}
use Rattle.rt_edits.specs.declared.doc_node.DocKind.TheVariants.{Element, Text, Placeholder}
use Rattle.rt_model.specs.Document.{Forest, Node, Empty, DocElement, DocText, DocPlaceholder, join_rows}
use Rattle.rt_model.specs.Caused.{last_of}
use Rattle.tree_edits.specs.Documents.{content_of, forest_below, forest_in, forest_of}
use Rattle.run_attributes.specs.Content.{attributes_of}

abbrev row_behind : DocKind → (n : Count) × Row_of-DocNode n
row_behind (Element' tag namespace attrs listeners _ row) = (_, row)
row_behind _ = (_, end_of-DocNode)

forest_row : (n : _) (row : Row_of-DocNode n) → forest_in row ≡ forest_of (items-the_row-DocNode n row)
unfolding forest_below forest_in
forest_row n end_of-DocNode = refl
forest_row n (more_of-DocNode id kind rest) = ap (λ (later : Forest). Node id.0 (content_of kind) (forest_below kind) later) (forest_row _ rest)

pub below_Element : (tag : List ℕ) (namespace : Option (List ℕ)) (attrs : List DocAttr) (listeners : List (List ℕ)) (children : List DocNode)
    → forest_below (Element tag namespace attrs listeners children) ≡ forest_of children
unfolding forest_below forest_in
below_Element tag namespace attrs listeners children =
    let row = row_behind (Element tag namespace attrs listeners children) in
    forest_row row.0 row.1 ∙ ap forest_of (items_hidden-the_row-DocNode-0 children)

pub below_Text : (text : List ℕ) → forest_below (Text text) ≡ Empty
unfolding forest_below forest_in
below_Text text = refl

pub below_Placeholder : forest_below Placeholder ≡ Empty
unfolding forest_below forest_in
below_Placeholder = refl

pub content_Element : (tag : List ℕ) (namespace : Option (List ℕ)) (attrs : List DocAttr) (listeners : List (List ℕ)) (children : List DocNode)
    → content_of (Element tag namespace attrs listeners children) ≡ DocElement tag namespace (attributes_of attrs) listeners
unfolding content_of
content_Element tag namespace attrs listeners children = refl

pub content_Text : (text : List ℕ) → content_of (Text text) ≡ DocText text
unfolding content_of
content_Text text = refl

pub content_Placeholder : content_of Placeholder ≡ DocPlaceholder
unfolding content_of
content_Placeholder = refl

pub forest-append : (a b : List DocNode) → forest_of (a ++ b) ≡ join_rows (forest_of a) (forest_of b)
forest-append [] b = refl
forest-append (x ∷ a) b = ap (λ later. Node x.id.0 (content_of x.kind) (forest_below x.kind) later) (forest-append a b)

pub join-empty : (f : Forest) → join_rows f Empty ≡ f
join-empty Empty = refl
join-empty (Node id content children rest) = ap (λ later. Node id content children later) (join-empty rest)

pub join-join : (f g h : Forest) → join_rows (join_rows f g) h ≡ join_rows f (join_rows g h)
join-join Empty g h = refl
join-join (Node id content children rest) g h = ap (λ later. Node id content children later) (join-join rest g h)

-- the number of a row's last node
pub last_seen : (row : List DocNode) (before : ℕ) (node : DocNode) → Some node ≡ slice_get row (length row - 1) → node.id.0 ≡ last_of before (forest_of row)
last_seen [] before node h = cc
last_seen (x ∷ []) before node h = ap (λ (n : DocNode). n.id.0) (let e : node ≡ x = cc in e)
last_seen (x ∷ y ∷ rest) before node h =
    let e : suc (suc (length rest)) - 1 ≡ suc (suc (length rest) - 1) = omega arith in
    last_seen (y ∷ rest) x.id.0 node (h ∙ ap (λ k. slice_get (x ∷ y ∷ rest) k) e)
