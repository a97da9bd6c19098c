-- From a scope down to all that its unit meets: what is written makes its new nodes of its old ones.
use Rattle.std.proofs.Common.{ℕ, zero, suc, ◌+◌, ◌≤◌, true, false, List, [], ◌≡◌, refl, sym, ap, ◌∙◌, subst, append-nil, arith}
use Rattle.std.specs.Prelude.{length, Ok, Option, Some, None}
use Rattle.rt_lemmas.proofs.Numbers.{at_most}
use Rattle.rt_model.specs.Lists.{at}
use Rattle.rt_model.specs.Tree.{Types, Tree}
use Rattle.rt_model.specs.World.{Application}
use Rattle.rt_model.specs.State.{SideName, same_side, Side, Scope, State, side_of}
use Rattle.rt_model.specs.Document.{Forest, Empty, Edit, count_of, document_after}
use Rattle.rt_model.specs.View.{tree_view, side_view, scope_view, nodes_of, view}
use Rattle.rt_model.specs.Caused.{Written, writes, then_on, Both, tree_written, side_written, sides_written, written_within, written}
use Rattle.rt_model.specs.Once.{NumbersOnce}
use Rattle.rt_model.proofs.Maps.{pick_true, pick_false, by_test}
use Rattle.law_moves.specs.Settings.{Setting, placed, Brings}
use Rattle.law_moves.specs.Meets.{Performs, HasNode, ChildBrings, tree_claims}
use Rattle.law_moves.specs.Trees.{IsUnfolded}
use Rattle.law_moves.specs.Sweeps.{between, Stays, SideMeets, under, MeetsDown, scope_claims}
use Rattle.law_headline.proofs.Changes.{document_brought}
use Rattle.law_headline.proofs.Sweep.{of_to, is_written, claims_more, two_parts, gives_way, tree_performs}
use Rattle.law_headline.proofs.Claims.{tree_claimed}
use Rattle.law_headline.proofs.Ends.{side_is as same_side-true}

-- nothing is written after it
nothing_more : {w : Written} {f g : Forest} {m : ℕ → ℕ} → Performs w f g m → Performs (then_on w (writes [])) f g m
nothing_more {w = w} {f = f} {g = g} {m = m} a =
    two_parts w (writes []) a.goes_on refl (subst (λ (es : List Edit). Brings es f g m) (sym (append-nil w.edits)) a.brings)

within_both : {m n a b c d : ℕ} → m ≡ n → n ≤ a + b → c ≡ a → d ≡ b → m ≤ c + d
within_both p q r t = omega arith

module _ {K : Types} where
  -- what a scope shows is what its side's output shows
  side_shows : (u : State K) (s : ℕ) (x : Scope K) (a : SideName) (tree : Tree K) → IsUnfolded u → at u.scopes s ≡ Some x → x.shows ≡ Some a → (side_of x a).output ≡ Some tree
      → nodes_of u s ≡ tree_view (side_of x a) (λ t. nodes_of u t) [] tree
  side_shows u s x a tree unfolded live shows has =
      unfolded s
      ∙ ap (λ (o : Option (Scope K)). scope_view (λ t. nodes_of u t) o) live
      ∙ ap (λ (o : Option SideName). elim o [ None ↦ Empty | Some name ↦ side_view (λ t. nodes_of u t) (side_of x name) ]) shows
      ∙ ap (λ (o : Option (Tree K)). elim o [ None ↦ Empty | Some y ↦ tree_view (side_of x a) (λ t. nodes_of u t) [] y ]) has

module _ {K : Types} (app : Application K) (w v : State K) (unfolded_w : IsUnfolded w) (unfolded_v : IsUnfolded v) where
  -- what a scope writes that is shown in both states
  of_sides : (m s : ℕ) (h : Stays w v s) → written_within app [] w v (suc m) s ≡ then_on (sides_written app w v [] (under app w v m) s h.old h.new (Some h.old_side) (Some h.new_side)) (writes [])
  of_sides m s h = rw (h.seen, h.lived, h.lives, h.showed, h.shows) refl

  of_output : (m s : ℕ) (h : Stays w v s) (k : SideMeets app w v (λ t. MeetsDown app w v m t) (under app w v m) (side_of h.old h.old_side) (side_of h.new h.old_side))
      → side_written app w v [] (under app w v m) s h.old h.new h.old_side
      ≡ tree_written app (between w v (under app w v m) (side_of h.old h.old_side) (side_of h.new h.old_side)) [] k.new k.old
  of_output m s h k = rw (k.had, k.has) refl

  kept_claims : (m s n : ℕ) (h : Stays w v s) (k : SideMeets app w v (λ t. MeetsDown app w v m t) (under app w v m) (side_of h.old h.old_side) (side_of h.new h.old_side))
      → same_side h.old_side h.new_side ≡ true
      → scope_claims app w v (suc m) s n
      ≡ tree_claims app (between w v (under app w v m) (side_of h.old h.old_side) (side_of h.new h.old_side)) (λ t i. scope_claims app w v m t i) n [] k.new k.old
  kept_claims m s n h k e = rw (h.lived, h.lives, h.showed, h.shows, e, k.had, k.has) refl

  turned_claims : (m s n : ℕ) (h : Stays w v s) → same_side h.old_side h.new_side ≡ false → scope_claims app w v (suc m) s n ≡ count_of n (nodes_of w s) + count_of n (nodes_of v s)
  turned_claims m s n h e = rw (h.lived, h.lives, h.showed, h.shows, e) refl

  -- what is known of a scope after its sweep
  pub record Swept (m s : ℕ) : Type 0 where
    pub performs : Performs (written_within app [] w v m s) (nodes_of w s) (nodes_of v s) (λ n. scope_claims app w v m s n)
    pub bounded : (n : ℕ) → scope_claims app w v m s n ≤ count_of n (nodes_of w s) + count_of n (nodes_of v s)

  turned_sweep : (m s : ℕ) (h : Stays w v s) → same_side h.old_side h.new_side ≡ false → HasNode (nodes_of w s) → Swept (suc m) s
  turned_sweep m s h e r =
      record {
        performs =
            claims_more (λ n. at_most (turned_claims m s n h e))
            (is_written (of_sides m s h ∙ ap (λ (x : Written). then_on x (writes [])) (pick_false _ _ e)) (nothing_more (gives_way (nodes_of w s) (nodes_of v s) r)));
        bounded = λ n. omega (arith, turned_claims m s n h e);
      }

  kept_sweep : (m s : ℕ) (h : Stays w v s) (k : SideMeets app w v (λ t. MeetsDown app w v m t) (under app w v m) (side_of h.old h.old_side) (side_of h.new h.old_side))
      → same_side h.old_side h.new_side ≡ true
      → ((t : ℕ) → MeetsDown app w v m t → Swept m t)
      → Swept (suc m) s
  kept_sweep m s h k e below =
      let p : Side K = side_of h.old h.old_side in
      let q : Side K = side_of h.new h.old_side in
      let b : Both K = between w v (under app w v m) p q in
      let claims : ℕ → ℕ → ℕ = λ t i. scope_claims app w v m t i in
      let each : (t : ℕ) → MeetsDown app w v m t → ChildBrings b claims t = λ t r. record { performs = (below t r).performs; bounded = (below t r).bounded } in
      let shows : h.new.shows ≡ Some h.old_side = h.shows ∙ ap Some (sym (same_side-true h.old_side h.new_side e)) in
      let was : nodes_of w s ≡ tree_view p (λ t. nodes_of w t) [] k.old = side_shows w s h.old h.old_side k.old unfolded_w h.lived h.showed k.had in
      let is : nodes_of v s ≡ tree_view q (λ t. nodes_of v t) [] k.new = side_shows v s h.new h.old_side k.new unfolded_v h.lives shows k.has in
      record {
        performs =
            claims_more (λ n. at_most (kept_claims m s n h k e))
            (of_to was is
            (is_written (of_sides m s h ∙ ap (λ (x : Written). then_on x (writes [])) (pick_true _ _ e ∙ of_output m s h k))
            (nothing_more (tree_performs app b (λ t. MeetsDown app w v m t) claims each refl [] k.new k.old k.meets))));
        bounded = λ n. within_both (kept_claims m s n h k e) (tree_claimed app b (λ t. MeetsDown app w v m t) claims each n [] k.new k.old k.meets) (ap (count_of n) was) (ap (count_of n) is);
      }

  -- what a scope writes, with all that is below it
  pub scope_sweep : (m s : ℕ) → MeetsDown app w v m s → Swept m s
  scope_sweep zero s r = absurd r
  scope_sweep (suc m) s r =
      by_test (same_side r.stays.old_side r.stays.new_side)
      (λ e. kept_sweep m s r.stays (r.kept e) e (λ t d. scope_sweep m t d))
      (λ e. turned_sweep m s r.stays e (r.turned e))

  pub written_brings : (s : ℕ) (place : Setting) → MeetsDown app w v (length w.scopes) s → ((n : ℕ) → scope_claims app w v (length w.scopes) s n ≤ 1)
      → view w ≡ placed place (nodes_of w s)
      → view v ≡ placed place (nodes_of v s)
      → NumbersOnce (view w)
      → NumbersOnce (view v)
      → document_after (written app w v s) (view w) ≡ Ok (view v)
  written_brings s place r single p q x y =
      let t : Swept (length w.scopes) s = scope_sweep (length w.scopes) s r in
      ap (document_after (written app w v s)) p
      ∙ document_brought place t.performs.brings t.bounded single (subst (λ (d : Forest). NumbersOnce d) p x) (subst (λ (d : Forest). NumbersOnce d) q y)
      ∙ ap Ok (sym q)
