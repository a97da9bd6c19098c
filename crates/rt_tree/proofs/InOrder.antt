-- One thing more of a list, as it is told; and rows under the scopes that they were given for.
use Rattle.std.proofs.Common.{ℕ, zero, suc, ◌+◌, ◌<◌, ◌≤◌, List, [], ◌∷◌, ◌++◌, ◌≡◌, length, drop, drop-cons, map, refl, sym, ap, ◌∙◌, arith, append_assoc, append-nil, slice_index_or}
use Rattle.std.specs.Prelude.{Option, Some, None, slice_get}
use Rattle.std.proofs.Math.ListN.{drop_of_length-le}
use Rattle.rt_values.specs.declared.names.ScopeId.{ScopeId}
use Rattle.rt_edits.specs.declared.doc_node.DocNode.{DocNode}
use Rattle.rt_model.specs.Document.{Forest, Empty}
use Rattle.rt_model.specs.View.{side_view, tree_view}
use Rattle.tree_nodes.specs.declared.vnode.VNode.{VNode}
use Rattle.tree_mirror.specs.Sealed.{tree_of}
use Rattle.run_places.specs.declared.side.Side.{Side}
use Rattle.run_places.specs.Places.{output_of, side_of}
use Rattle.rt_tree.specs.Rows.{paired, put_under}

module _ {A B : Type 0} (f : A → B) (xs : List A) (i : ℕ) (d : A) (before whole : List B) where
  -- one more
  pub one_told : (after : List B) → i < length xs → after ≡ before ++ f (slice_index_or xs i d) ∷ [] → before ++ map f (drop i xs) ≡ whole
      → after ++ map f (drop (i + 1) xs) ≡ whole
  one_told after low is so_far =
      let next : suc i ≡ i + 1 = omega arith in
      ap (λ (ys : List B). ys ++ map f (drop (i + 1) xs)) is
      ∙ append_assoc before (f (slice_index_or xs i d) ∷ []) (map f (drop (i + 1) xs))
      ∙ ap (λ (zs : List A). before ++ map f zs) (sym (drop-cons xs i d low ∙ ap (λ (k : ℕ). slice_index_or xs i d ∷ drop k xs) next))
      ∙ so_far

  -- and at the end all
  pub all_told : length xs ≤ i → before ++ map f (drop i xs) ≡ whole → before ≡ whole
  all_told end so_far = sym (append-nil before) ∙ ap (λ (zs : List A). before ++ map f zs) (sym (drop_of_length-le xs end)) ∙ so_far

-- the scopes from a position on
scopes_from : (scopes : List ScopeId) (n : ℕ) (s : ScopeId) → slice_get scopes n ≡ Some s → drop n scopes ≡ s ∷ drop (suc n) scopes
scopes_from [] n s h = let absurdity : ⊥ = cc h in absurd absurdity
scopes_from (x ∷ scopes) zero s h = ap (λ (y : ScopeId). y ∷ scopes) (let same : x ≡ s = cc h in same)
scopes_from (x ∷ scopes) (suc n) s h = scopes_from scopes n s h

scopes_over : (scopes : List ScopeId) (n : ℕ) → slice_get scopes n ≡ None → drop n scopes ≡ []
scopes_over [] zero h = refl
scopes_over [] (suc n) h = refl
scopes_over (x ∷ scopes) zero h = let absurdity : ⊥ = cc h in absurd absurdity
scopes_over (x ∷ scopes) (suc n) h = scopes_over scopes n h

longer : (done more : List (ℕ × List DocNode)) (pair : ℕ × List DocNode) → more ≡ done ++ pair ∷ [] → length more ≡ suc (length done)
longer done more pair is = ap length is ∙ by done
  where
    by : (xs : List (ℕ × List DocNode)) → length (xs ++ pair ∷ []) ≡ suc (length xs)
    by [] = refl
    by (x ∷ xs) = ap suc (by xs)

-- one more row, which is put under the next scope if there is one
pub paired_more : (scopes : List ScopeId) (rows rest : List (List DocNode)) (row : List DocNode) (done more whole : List (ℕ × List DocNode))
    → rows ≡ row ∷ rest → more ≡ done ++ put_under (slice_get scopes (length done)) row
    → done ++ paired (drop (length done) scopes) rows ≡ whole
    → more ++ paired (drop (length more) scopes) rest ≡ whole
paired_more scopes rows rest row done more whole are put so_far = by (slice_get scopes (length done)) refl
  where
    by : (o : Option ScopeId) → slice_get scopes (length done) ≡ o → more ++ paired (drop (length more) scopes) rest ≡ whole
    by None none =
        let same : more ≡ done = put ∙ ap (λ (o : Option ScopeId). done ++ put_under o row) none ∙ append-nil done in
        ap (λ (xs : List (ℕ × List DocNode)). xs ++ paired (drop (length xs) scopes) rest) same
        ∙ ap (λ (ss : List ScopeId). done ++ paired ss rest) (scopes_over scopes (length done) none)
        ∙ ap (λ (ss : List ScopeId). done ++ paired ss rows) (sym (scopes_over scopes (length done) none))
        ∙ so_far
    by (Some s) some =
        let one : more ≡ done ++ (s.0, row) ∷ [] = put ∙ ap (λ (o : Option ScopeId). done ++ put_under o row) some in
        let count : length more ≡ suc (length done) = longer done more (s.0, row) one in
        ap (λ (xs : List (ℕ × List DocNode)). xs ++ paired (drop (length more) scopes) rest) one
        ∙ append_assoc done ((s.0, row) ∷ []) (paired (drop (length more) scopes) rest)
        ∙ ap (λ (n : ℕ). done ++ (s.0, row) ∷ paired (drop n scopes) rest) count
        ∙ (λ t. done ++ paired (sym (scopes_from scopes (length done) s some) t) (sym are t))
        ∙ so_far

-- where no row is left
pub paired_all : (scopes : List ScopeId) (rows : List (List DocNode)) (done whole : List (ℕ × List DocNode)) → rows ≡ [] → done ++ paired (drop (length done) scopes) rows ≡ whole → done ≡ whole
paired_all scopes rows done whole none so_far =
    sym (append-nil done) ∙ ap (λ (ps : List (ℕ × List DocNode)). done ++ ps) (sym (nothing (drop (length done) scopes))) ∙ ap (λ (rs : List (List DocNode)). done ++ paired (drop (length done) scopes) rs) (sym none) ∙ so_far
  where
    nothing : (ss : List ScopeId) → paired ss [] ≡ []
    nothing [] = refl
    nothing (s ∷ ss) = refl

module _ {P C Q V H T E L : Type 0} where
  -- what a side shows that has a tree
  pub shows_of : (side : Side P C Q V H T E L) (tree : VNode P C Q V H T E L) (inner : ℕ → Forest) → side.output ≡ Some tree
      → tree_view (side_of side) inner [] (tree_of tree) ≡ side_view inner (side_of side)
  shows_of side tree inner is =
      sym (ap (λ (o : Option (VNode P C Q V H T E L)). elim (output_of o) [ None ↦ Empty | Some t ↦ tree_view (side_of side) inner [] t ]) is)
