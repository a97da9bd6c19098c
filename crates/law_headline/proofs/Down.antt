-- From a scope down to all that its unit meets: what is written claims what it carries beside what showed.
use Rattle.std.proofs.Common.{ℕ, zero, suc, ◌+◌, ◌≤◌, true, false, [], ◌≡◌, refl, ap, ◌∙◌, arith}
use Rattle.std.specs.Prelude.{Option, Some, None}
use Rattle.rt_model.specs.Lists.{at}
use Rattle.rt_model.specs.Tree.{Types, Tree}
use Rattle.rt_model.specs.World.{Application}
use Rattle.rt_model.specs.State.{SideName, same_side, Scope, State, side_of}
use Rattle.rt_model.specs.Document.{Forest, Empty, count_of}
use Rattle.rt_model.specs.View.{tree_view, side_view, scope_view, nodes_of}
use Rattle.rt_model.specs.Caused.{Written, writes, then_on, replaced_by, Both, tree_written, side_written, sides_written, written_within}
use Rattle.rt_model.proofs.Maps.{pick_true, pick_false, by_test}
use Rattle.law_moves.specs.Meets.{tree_claims}
use Rattle.law_moves.specs.Trees.{IsUnfolded}
use Rattle.law_moves.specs.Sweeps.{between, Stays, SideMeets, under, MeetsDown, scope_claims}
use Rattle.law_headline.proofs.Carries.{carries, carried_in_both, replaced_carries, Within, tree_within}

module _ {K : Types} (app : Application K) (w v : State K) (unfolded : IsUnfolded w) (n : ℕ) where
  -- what a scope writes that is shown in both states
  of_sides : (m s : ℕ) (h : Stays w v s) → written_within app [] w v (suc m) s ≡ then_on (sides_written app w v [] (under app w v m) s h.old h.new (Some h.old_side) (Some h.new_side)) (writes [])
  of_sides m s h = rw (h.seen, h.lived, h.lives, h.showed, h.shows) refl

  of_output : (m s : ℕ) (h : Stays w v s) (k : SideMeets app w v (λ t. MeetsDown app w v m t) (under app w v m) (side_of h.old h.old_side) (side_of h.new h.old_side))
      → side_written app w v [] (under app w v m) s h.old h.new h.old_side
      ≡ tree_written app (between w v (under app w v m) (side_of h.old h.old_side) (side_of h.new h.old_side)) [] k.new k.old
  of_output m s h k = rw (k.had, k.has) refl

  kept_claims : (m s : ℕ) (h : Stays w v s) (k : SideMeets app w v (λ t. MeetsDown app w v m t) (under app w v m) (side_of h.old h.old_side) (side_of h.new h.old_side))
      → same_side h.old_side h.new_side ≡ true
      → scope_claims app w v (suc m) s n
      ≡ tree_claims app (between w v (under app w v m) (side_of h.old h.old_side) (side_of h.new h.old_side)) (λ t i. scope_claims app w v m t i) n [] k.new k.old
  kept_claims m s h k e = rw (h.lived, h.lives, h.showed, h.shows, e, k.had, k.has) refl

  turned_claims : (m s : ℕ) (h : Stays w v s) → same_side h.old_side h.new_side ≡ false → scope_claims app w v (suc m) s n ≡ count_of n (nodes_of w s) + count_of n (nodes_of v s)
  turned_claims m s h e = rw (h.lived, h.lives, h.showed, h.shows, e) refl

  -- what a scope showed is what its side's output shows
  side_showed : (s : ℕ) (x : Scope K) (a : SideName) (tree : Tree K) → at w.scopes s ≡ Some x → x.shows ≡ Some a → (side_of x a).output ≡ Some tree
      → nodes_of w s ≡ tree_view (side_of x a) (λ t. nodes_of w t) [] tree
  side_showed s x a tree live shows has =
      unfolded s
      ∙ ap (λ (o : Option (Scope K)). scope_view (λ t. nodes_of w t) o) live
      ∙ ap (λ (o : Option SideName). elim o [ None ↦ Empty | Some name ↦ side_view (λ t. nodes_of w t) (side_of x name) ]) shows
      ∙ ap (λ (o : Option (Tree K)). elim o [ None ↦ Empty | Some y ↦ tree_view (side_of x a) (λ t. nodes_of w t) [] y ]) has

  -- nothing is written after it
  nothing_more : (m s : ℕ) (h : Stays w v s) (part : Written) (f : Forest) (claim : ℕ)
      → sides_written app w v [] (under app w v m) s h.old h.new (Some h.old_side) (Some h.new_side) ≡ part
      → nodes_of w s ≡ f
      → scope_claims app w v (suc m) s n ≡ claim
      → Within n part f claim
      → Within n (written_within app [] w v (suc m) s) (nodes_of w s) (scope_claims app w v (suc m) s n)
  nothing_more m s h part f claim is showed claims inner =
      let whole : written_within app [] w v (suc m) s ≡ then_on part (writes []) = of_sides m s h ∙ ap (λ (x : Written). then_on x (writes [])) is in
      let most : carries n (then_on part (writes [])).edits ≤ carries n part.edits + carries n (writes []).edits = carried_in_both n part (writes []) in
      let same : carries n (written_within app [] w v (suc m) s).edits ≡ carries n (then_on part (writes [])).edits = ap (λ (x : Written). carries n x.edits) whole in
      let count : count_of n (nodes_of w s) ≡ count_of n f = ap (λ (x : Forest). count_of n x) showed in
      omega (arith, most, same, count, claims, inner)

  turned_within : (m s : ℕ) (h : Stays w v s) → same_side h.old_side h.new_side ≡ false → Within n (written_within app [] w v (suc m) s) (nodes_of w s) (scope_claims app w v (suc m) s n)
  turned_within m s h e =
      let new : _ = replaced_carries n (nodes_of w s) (nodes_of v s) in
      nothing_more m s h (writes (replaced_by (nodes_of w s) (nodes_of v s))) (nodes_of w s) (count_of n (nodes_of w s) + count_of n (nodes_of v s))
      (pick_false _ _ e) refl (turned_claims m s h e) (omega (arith, new))

  kept_within : (m s : ℕ) (h : Stays w v s) (k : SideMeets app w v (λ t. MeetsDown app w v m t) (under app w v m) (side_of h.old h.old_side) (side_of h.new h.old_side))
      → same_side h.old_side h.new_side ≡ true
      → ((t : ℕ) → MeetsDown app w v m t → Within n (written_within app [] w v m t) (nodes_of w t) (scope_claims app w v m t n))
      → Within n (written_within app [] w v (suc m) s) (nodes_of w s) (scope_claims app w v (suc m) s n)
  kept_within m s h k e below =
      let b : Both K = between w v (under app w v m) (side_of h.old h.old_side) (side_of h.new h.old_side) in
      let claims : ℕ → ℕ → ℕ = λ t i. scope_claims app w v m t i in
      nothing_more m s h (tree_written app b [] k.new k.old) (tree_view (side_of h.old h.old_side) (λ t. nodes_of w t) [] k.old) (tree_claims app b claims n [] k.new k.old)
      (pick_true _ _ e ∙ of_output m s h k) (side_showed s h.old h.old_side k.old h.lived h.showed k.had) (kept_claims m s h k e)
      (tree_within app b b.new b.new_child (λ t. MeetsDown app w v m t) claims n below [] k.new k.old k.meets)

  -- what a scope writes, with all that is below it
  pub scope_within : (m s : ℕ) → MeetsDown app w v m s → Within n (written_within app [] w v m s) (nodes_of w s) (scope_claims app w v m s n)
  scope_within zero s r = absurd r
  scope_within (suc m) s r =
      by_test (same_side r.stays.old_side r.stays.new_side)
      (λ e. kept_within m s r.stays (r.kept e) e (λ t d. scope_within m t d))
      (λ e. turned_within m s r.stays e)
