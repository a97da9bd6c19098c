-- A change of one node, and the same change at the mirror.
use Rattle.std.proofs.Common.{◌≡◌, ℕ, Bool, true, false, cond, nat_eq, List, [], ◌∷◌, ◌++◌, Option, Some, None, is_some, refl, sym, ap, ◌∙◌}
use Rattle.rt_values.specs.declared.element.ElementId.{ElementId}
use Rattle.rt_edits.specs.Nodes as code
use Rattle.rt_edits.specs.Nodes.{numbers_below, numbers_in, has, found, found_below, found_in, either, changed_below, changed_in}
use Rattle.rt_edits.specs.declared.doc_node.DocNode.{DocNode}
use Rattle.rt_edits.specs.declared.doc_node.DocKind.{DocKind, Element', Text, Placeholder, Row_of-DocNode, end_of-DocNode, more_of-DocNode, items-the_row-DocNode}
use Rattle.rt_edits.proofs.Times.{node_of, found_has_below, equal_numbers}
pub use Rattle.rt_edits.proofs.Elsewhere.{found_has}
use Rattle.rt_model.specs.Document.{Forest, Node, Content, changed, is_in}
use Rattle.tree_edits.specs.Documents.{content_of, forest_below, forest_in, forest_of}
use Rattle.tree_documents.proofs.Forests.{forest_row, below_Element}
use Rattle.tree_documents.proofs.Numbers.{in_below}

content_kept : (i : ℕ) (change : DocNode → List DocNode) (kind : DocKind) → content_of (changed_below i change kind) ≡ content_of kind
unfolding content_of changed_below changed_in
content_kept i change (Element' tag namespace attrs listeners shape row) = refl
content_kept i change (Text text) = refl
content_kept i change Placeholder = refl

in_first : {k : DocKind} (a b : Option DocKind) → is_some a ≡ true → either a b ≡ Some k → a ≡ Some k
in_first None b h e = cc
in_first (Some x) b h e = e

in_later : {k : DocKind} (a b : Option DocKind) → is_some a ≡ false → either a b ≡ Some k → b ≡ Some k
in_later None b h e = e
in_later (Some x) b h e = cc

inner : (a b : DocKind) → Some a ≡ Some b → a ≡ b
inner a b h = cc

abbrev node : ElementId → DocKind → DocNode
node id kind = record { id = id; kind = kind }

module _ (i : ℕ) (f : ℕ → Content → Forest → Forest → Forest) (change : DocNode → List DocNode) (kind : DocKind)
    (same : (rest : List DocNode) → f i (content_of kind) (forest_below kind) (forest_of rest) ≡ forest_of
    (change (node_of i kind) ++ rest)) where
  here : (id : ElementId) (other : DocKind) (rest : List DocNode) → id.0 ≡ i → other ≡ kind
      → f id.0 (content_of other) (forest_below other) (forest_of rest) ≡ forest_of (change (node id other) ++ rest)
  here id other rest e g =
      let alike : node id other ≡ node_of i kind = ap (λ (n : ℕ). node_of n other) e ∙ ap (λ (k : DocKind). node_of i k) g in
      ap (λ (n : ℕ). f n (content_of other) (forest_below other) (forest_of rest)) e ∙
      ap (λ (k : DocKind). f i (content_of k) (forest_below k) (forest_of rest)) g ∙ same rest ∙
      ap (λ (x : DocNode). forest_of (change x ++ rest)) (sym alike)

  step : (b c : Bool) (id : ElementId) (other : DocKind) (rest later : List DocNode) (row : Forest) (o : Option DocKind) → nat_eq id.0 i ≡ b
      → has i (numbers_below other) ≡ c → row ≡ forest_of rest → cond b (Some other) (either (found_below i other) o) ≡ Some kind
      → (found_below i other ≡ Some kind → changed i f (forest_below other) ≡ forest_below (changed_below i change other))
      → (o ≡ Some kind → changed i f row ≡ forest_of later)
      → cond b (f id.0 (content_of other) (forest_below other) row)
      (cond c (Node id.0 (content_of other) (changed i f (forest_below other)) row)
      (Node id.0 (content_of other) (forest_below other) (changed i f row)))
      ≡ forest_of (cond b (change (node id other) ++ rest) (cond c (node id (changed_below i change other) ∷ rest) (node id other ∷ later)))
  step true c id other rest later row o e g r h below after =
      ap (λ (x : Forest). f id.0 (content_of other) (forest_below other) x) r ∙
      here id other rest (equal_numbers id.0 i e) (inner other kind h)
  step false true id other rest later row o e g r h below after =
      let there = in_first (found_below i other) o (found_has_below i other ∙ g) h in
      ap (λ (x : Forest). Node id.0 (content_of other) x row) (below there) ∙
      ap (λ (c : Content). Node id.0 c (forest_below (changed_below i change other)) row) (sym (content_kept i change other)) ∙
      ap (λ (x : Forest). Node id.0 (content_of (changed_below i change other)) (forest_below (changed_below i change other)) x) r
  step false false id other rest later row o e g r h below after =
      let there = in_later (found_below i other) o (found_has_below i other ∙ g) h in
      ap (λ (x : Forest). Node id.0 (content_of other) (forest_below other) x) (after there)

  abbrev choice : Bool → ElementId → DocKind → Forest → Bool → Forest
  choice b id other row c =
      cond b (f id.0 (content_of other) (forest_below other) row)
      (cond c (Node id.0 (content_of other) (changed i f (forest_below other)) row)
      (Node id.0 (content_of other) (forest_below other) (changed i f row)))

  mutual
    unfolding forest_below forest_in changed_below changed_in found_below found_in

    change_below : (other : DocKind) → found_below i other ≡ Some kind
        → changed i f (forest_below other) ≡ forest_below (changed_below i change other)
    change_below (Element' tag namespace attrs listeners shape row) h =
        change_row row h ∙ sym (below_Element tag namespace attrs listeners (changed_in i change row))
    change_below (Text text) h = refl
    change_below Placeholder h = refl

    change_row : {m : _} (row : Row_of-DocNode m) → found_in i row ≡ Some kind
        → changed i f (forest_in row) ≡ forest_of (changed_in i change row)
    change_row end_of-DocNode h = cc
    change_row (more_of-DocNode id other rest) h =
        ap (λ c. choice (nat_eq id.0 i) id other (forest_in rest) c) (in_below i other) ∙
        step (nat_eq id.0 i) (has i (numbers_below other)) id other (items-the_row-DocNode _ rest) (changed_in i change rest)
        (forest_in rest)
        (found_in i rest) refl refl (forest_row _ rest) h (change_below other) (change_row rest)

  pub change_nodes : (nodes : List DocNode) → found i nodes ≡ Some kind
      → changed i f (forest_of nodes) ≡ forest_of (code.changed i change nodes)
  change_nodes [] h = cc
  change_nodes (x ∷ xs) h =
      ap (λ c. choice (nat_eq x.id.0 i) x.id x.kind (forest_of xs) c) (in_below i x.kind) ∙
      step (nat_eq x.id.0 i) (has i (numbers_below x.kind)) x.id x.kind xs (code.changed i change xs) (forest_of xs)
      (found i xs) refl refl refl h (change_below x.kind) (change_nodes xs)

-- a number that doesn't stand isn't found
