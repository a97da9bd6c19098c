-- The first child scope at the top for which nothing was given, one thing after another.
use Rattle.std.proofs.Common.{ℕ, suc, ◌+◌, ◌<◌, ◌≤◌, Bool, true, List, [], ◌∷◌, ◌++◌, ◌≡◌, length, drop, drop-cons, refl, sym, ap, ◌∙◌, arith, slice_index_or}
use Rattle.std.specs.Prelude.{Option, Some, None, if◌then◌else◌}
use Rattle.std.proofs.Math.ListN.{drop_of_length-le}
use Rattle.tree_nodes.specs.declared.vnode.DynamicNode.{DynamicNode}
use Rattle.tree_nodes.specs.declared.vnode.VNode.{VNode}
use Rattle.rt_model.specs.Document.{Forest}
use Rattle.rt_model.specs.Tree.{Place}
use Rattle.rt_model.proofs.Maps.{by_test, none_some}
use Rattle.tree_mirror.specs.Sealed.{slot_of, tree_of}
use Rattle.run_places.specs.declared.side.Side.{Side}
use Rattle.run_places.specs.Places.{side_of}
use Rattle.run_shown.specs.declared.asked.GivenRows.{GivenRows}
use Rattle.run_shown.specs.declared.pieces.Top.{Top}
use Rattle.run_shown.specs.declared.pieces.Top.TheVariants as top
use Rattle.run_shown.specs.Pieces.{slot_tops, tops_by, tree_pieces, tree_tops, value_pieces}
use Rattle.run_shown.specs.Tops.{tops_of}
use Rattle.run_shown.specs.Unknowns.{first_in, is_given, or_next, unknown_in}

module _ (given : GivenRows) (ps : List Top) (i : ℕ) (d : Top) where
  next_in : i < length ps → first_in given (drop i ps) ≡ or_next (unknown_in given (slice_index_or ps i d)) (first_in given (drop (i + 1) ps))
  next_in low =
      let one : suc i ≡ i + 1 = omega arith in
      ap (λ xs. first_in given xs) (drop-cons ps i d low ∙ ap (λ k. slice_index_or ps i d ∷ drop k ps) one)

  -- what is known, or is no child scope, is passed over
  pub first_passed : i < length ps → unknown_in given (slice_index_or ps i d) ≡ None → first_in given (drop i ps) ≡ first_in given (drop (i + 1) ps)
  first_passed low none = next_in low ∙ ap (λ o. or_next o (first_in given (drop (i + 1) ps))) none

  -- what isn't known is the first
  pub first_found : (t : ℕ) → i < length ps → unknown_in given (slice_index_or ps i d) ≡ Some t → first_in given (drop i ps) ≡ Some t
  first_found t low some = next_in low ∙ ap (λ o. or_next o (first_in given (drop (i + 1) ps))) some

  -- at the end there was none
  pub first_none : length ps ≤ i → first_in given (drop i ps) ≡ None
  first_none end = ap (λ xs. first_in given xs) (drop_of_length-le ps end)

module _ {P C Q V H T E L : Type 0} (side : Side P C Q V H T E L) where
  -- what stands at the top of a slot, and of a tree, by the definitions
  pub slot_at : (value : DynamicNode P C Q V H T E L) (place : Place) → value_pieces side value place ≡ slot_tops (side_of side) (slot_of value) place
  unfolding value_pieces
  slot_at value place = refl

  pub tree_at : (tree : VNode P C Q V H T E L) (above : Place) → tree_pieces side tree above ≡ tree_tops (side_of side) above (tree_of tree)
  unfolding tree_pieces
  tree_at tree above = refl

-- where nothing at the top is unknown, what shows there is what was given
module _ (given : GivenRows) (f g : ℕ → Forest) (agree : (t : ℕ) → is_given given t ≡ true → f t ≡ g t) where
  pub tops_known : (ps : List Top) → first_in given ps ≡ None → tops_by f ps ≡ tops_by g ps
  tops_known [] none = refl
  tops_known (top.Own n ∷ ps) none = ap (λ (ns : List ℕ). n ∷ ns) (tops_known ps none)
  tops_known (top.Child t ∷ ps) none =
      by_test (is_given given t)
      (
      λ yes.
      let rest : first_in given ps ≡ None = ap (λ (b : Bool). or_next (if b then None else Some t) (first_in given ps)) (sym yes) ∙ none in
      let later : tops_by f ps ≡ tops_by g ps = tops_known ps rest in
      (λ k. tops_of (agree t yes k) ++ later k)
      )
      (
      λ no.
      let found : ◌≡◌ {A = Option ℕ} (Some t) None = ap (λ (b : Bool). or_next (if b then None else Some t) (first_in given ps)) (sym no) ∙ none in
      none_some found refl
      )
