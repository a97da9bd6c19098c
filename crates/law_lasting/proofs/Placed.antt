-- What lasts of a node on a side: its number.
use Rattle.std.proofs.Common.{ℕ, zero, suc, Bool, true, false, List, [], ◌∷◌, ◌++◌, ◌≡◌, ◌&&◌, refl, sym, ap, ◌∙◌, subst, arith}
use Rattle.std.specs.Prelude.{Option, Some, None}
use Rattle.rt_model.specs.Lists.{at}
use Rattle.rt_model.specs.Tree.{Types, Place, Kind, Spot, same_place, same_kind, spots}
use Rattle.rt_model.specs.World.{Application}
use Rattle.rt_model.specs.State.{SideName, Side, Scope, State, side_of}
use Rattle.rt_model.specs.Run.{kept_numbers, spots_of, has_node}
use Rattle.rt_model.specs.Heard.{number_at}
use Rattle.rt_model.specs.Replay.{Entry, Machine}
use Rattle.rt_model.specs.Causes.{Limits}
use Rattle.rt_model.proofs.Conjunctions.{and-left, and-right}
use Rattle.rt_model.proofs.Maps.{by_test, pick_true, pick_false}
use Rattle.rt_model.proofs.SamePlaces.{same_place-true, same_kind-true}
use Rattle.law_moves.specs.Moves.{Move, entries, Leads}
use Rattle.law_moves.proofs.Logs.{logs_are_moves}
use Rattle.law_behavior.specs.Along.{NoneRemoves}
use Rattle.law_behavior.proofs.Steadfast.{Of}
use Rattle.law_lasting.specs.NumbersLast.{number_on, node_on, NodeStays, NumbersLast, LoggedNumbersLast}
use Rattle.law_lasting.proofs.Sided.{SideBears, SideIs, SideLeft, Regains, side_lasts}

abbrev Numbers : Type 0
Numbers = List (Place × Kind × ℕ)

-- a number that stands is found in a longer list
number_longer : (es : Numbers) (p : Place) (k : Kind) (e : Place × Kind × ℕ) (n : ℕ) → number_at es p k ≡ suc n → number_at (es ++ e ∷ []) p k ≡ suc n
number_longer [] p k e n h = cc
number_longer (d ∷ es) p k e n h =
    by_test (same_kind d.1 k && same_place d.0 p)
    (λ q. pick_true d.2 (number_at (es ++ e ∷ []) p k) q ∙ sym (pick_true d.2 (number_at es p k) q) ∙ h)
    (λ q. pick_false d.2 (number_at (es ++ e ∷ []) p k) q ∙ number_longer es p k e n (sym (pick_false d.2 (number_at es p k) q) ∙ h))

module _ {K : Types} where
  -- a place that a new tree has keeps its number
  number_kept : (new : List (Spot K)) (es : Numbers) (p : Place) (k : Kind) → has_node new p k ≡ true → number_at (kept_numbers new es) p k ≡ number_at es p k
  number_kept new [] p k h = refl
  number_kept new (e ∷ es) p k h =
      let kept : Numbers = kept_numbers new es in
      let tail : number_at kept p k ≡ number_at es p k = number_kept new es p k h in
      by_test (same_kind e.1 k && same_place e.0 p)
      (
      λ q.
      let place : e.0 ≡ p = same_place-true e.0 p (and-right (same_kind e.1 k) (same_place e.0 p) q) in
      let kind : e.1 ≡ k = same_kind-true e.1 k (and-left (same_kind e.1 k) (same_place e.0 p) q) in
      let stays : has_node new e.0 e.1 ≡ true = ap (λ (z : Place). has_node new z e.1) place ∙ ap (λ (z : Kind). has_node new p z) kind ∙ h in
      ap (λ (xs : Numbers). number_at xs p k) (pick_true (e ∷ kept) kept stays)
      ∙ pick_true e.2 (number_at kept p k) q
      ∙ sym (pick_true e.2 (number_at es p k) q)
      )
      (
      λ q.
      let here : number_at es p k ≡ number_at (e ∷ es) p k = sym (pick_false e.2 (number_at es p k) q) in
      by_test (has_node new e.0 e.1)
      (λ r. ap (λ (xs : Numbers). number_at xs p k) (pick_true (e ∷ kept) kept r) ∙ pick_false e.2 (number_at kept p k) q ∙ tail ∙ here)
      (λ r. ap (λ (xs : Numbers). number_at xs p k) (pick_false (e ∷ kept) kept r) ∙ tail ∙ here)
      )

  some_scope : (w : State K) (s : ℕ) (Q : Scope K → Type 0) (n : ℕ) (f : Scope K → ℕ) → ((x : Scope K) → f x ≡ suc n → Q x) → (o : Option (Scope K)) → at w.scopes s ≡ o
      → elim o as (λ z. ℕ) [ None ↦ 0 | Some x ↦ f x ] ≡ suc n
      → Of s Q w
  some_scope w s Q n f g None e h = cc
  some_scope w s Q n f g (Some x) e h = record { row = x; there = e; holds = g x h }

module _ {K : Types} (s : ℕ) (side : SideName) (p : Place) (k : Kind) (n : ℕ) where
  abbrev Numbered : Side K → Type 0
  Numbered a = number_at a.numbers p k ≡ suc n

  -- where its tree has such a node
  abbrev NumberedThere : Side K → Type 0
  NumberedThere a = has_node (spots_of a.output) p k ≡ true → Numbered a

  module _ (app : Application K) where
    bears : SideBears app (λ a. Numbered a) (λ a. NumberedThere a)
    bears =
        record {
          leaves = λ a h has. h;
          draws = λ a e h. number_longer a.numbers p k e n h;
          makes = λ a e h. h;
          patches = λ a tree h has. number_kept (spots [] tree) a.numbers p k has ∙ h;
          empties = λ a h has. let absurdity : false ≡ true = has in cc;
        }

    abbrev NumberIs : State K → Type 0
    NumberIs w = SideIs app s side (λ a. Numbered a) (λ a. NumberedThere a) bears w

    abbrev NumberIsThere : State K → Type 0
    NumberIsThere w = SideLeft app s side (λ a. Numbered a) (λ a. NumberedThere a) bears w

    -- where the tree has the node the fact itself holds
    regained : (w : State K) → node_on w s side p k ≡ true → NumberIsThere w → NumberIs w
    regained w has h =
        record {
          row = h.row;
          there = h.there;
          holds = h.holds (sym (ap (λ (o : Option (Scope K)). elim o as (λ z. Bool) [ None ↦ false | Some x ↦ has_node (spots_of (side_of x side).output) p k ]) h.there) ∙ has);
        }

    all_regained : (limits : Limits) (m v : Machine K) (moves : List Move) (leads : Leads app limits m moves v) → NodeStays app limits s side p k m v moves leads
        → Regains app s side (λ a. Numbered a) (λ a. NumberedThere a) bears limits m v moves leads
    all_regained limits m v [] leads there = tt
    all_regained limits m v (move ∷ moves) leads there = (regained (leads.0).state there.0, all_regained limits leads.0 v moves leads.2 there.1)

    number_lasts : (limits : Limits) (m v : Machine K) (moves : List Move) (leads : Leads app limits m moves v) → NoneRemoves s (entries moves) → NodeStays app limits s side p k m v moves leads
        → NumberIs m.state
        → NumberIs v.state
    number_lasts limits m v moves leads still there h =
        side_lasts app s side (λ a. Numbered a) (λ a. NumberedThere a) bears limits m v moves leads still (all_regained limits m v moves leads there) h

    number_found : (w : State K) → NumberIs w → number_on w s side p k ≡ suc n
    number_found w h = ap (λ (o : Option (Scope K)). elim o as (λ z. ℕ) [ None ↦ 0 | Some x ↦ number_at (side_of x side).numbers p k ]) h.there ∙ h.holds

pub numbers_last : {K : Types} (app : Application K) → NumbersLast app
numbers_last app limits m v moves s side p k zero leads still there some h = absurd (omega (arith, some))
numbers_last app limits m v moves s side p k (suc n) leads still there some h =
    number_found s side p k n app v.state
    (number_lasts s side p k n app limits m v moves leads still there (some_scope m.state s (λ x. number_at (side_of x side).numbers p k ≡ suc n) n (λ x. number_at (side_of x side).numbers p k) (λ x e. e) (at m.state.scopes s) refl h))

pub logged_numbers_last : {K : Types} (app : Application K) → LoggedNumbersLast app
logged_numbers_last app limits m v log s side p k number settled accepted stays some h =
    let found = logs_are_moves app limits m v log settled accepted in
    let here : NoneRemoves s (entries found.0) = subst (λ (es : List Entry). NoneRemoves s es) (sym found.2) stays in
    (found.0, found.1, found.2, λ there. numbers_last app limits m v found.0 s side p k number found.1 here there some h)
