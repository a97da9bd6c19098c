-- What is appended leaves what was there.
use Rattle.std.proofs.Common.{ℕ, Bool, true, ◌&&◌, ◌||◌, List, [], ◌∷◌, ◌++◌, ◌≡◌, sym, ap, ◌∙◌}
use Rattle.std.specs.Prelude.{Option, Some}
use Rattle.law_headline.proofs.StandIns.{stays_first as child_stays}
use Rattle.rt_model.specs.Tree.{Types, Place, same_place, Kind, same_kind, Spot, node_at, component_at}
use Rattle.rt_model.specs.State.{Side}
use Rattle.rt_model.specs.Run.{child_at}
use Rattle.rt_model.specs.Heard.{number_at}
use Rattle.rt_model.specs.Document.{Forest}
use Rattle.rt_model.specs.View.{child_view}
use Rattle.rt_model.proofs.Maps.{by_test, pick_true, pick_false}
use Rattle.law_patch.specs.SoFar.{AgreeAt}
use Rattle.law_patch.specs.Appended.{is_numbered, Knows}

number_stays : (xs ys : List (Place × Kind × ℕ)) (p : Place) (k : Kind) → is_numbered xs p k ≡ true → number_at (xs ++ ys) p k ≡ number_at xs p k
number_stays [] ys p k h = cc
number_stays (e ∷ xs) ys p k h =
    by_test (same_kind e.1 k && same_place e.0 p)
    (λ r. pick_true e.2 (number_at (xs ++ ys) p k) r ∙ sym (pick_true e.2 (number_at xs p k) r))
    (λ r.
    pick_false e.2 (number_at (xs ++ ys) p k) r
    ∙ number_stays xs ys p k (sym (ap (λ (b : Bool). b || is_numbered xs p k) r) ∙ h)
    ∙ sym (pick_false e.2 (number_at xs p k) r))

module _ {K : Types} where
  pub appended_agrees : (s t : Side K) (f g : ℕ → Forest) (numbers : List (Place × Kind × ℕ)) (children : List (Place × ℕ)) (spot : Spot K)
      → t.numbers ≡ s.numbers ++ numbers → t.children ≡ s.children ++ children → Knows s f g spot → AgreeAt s f t g spot
  appended_agrees s t f g numbers children (node_at p k) e d h =
      sym (ap (λ (xs : List (Place × Kind × ℕ)). number_at xs p k) e ∙ number_stays s.numbers numbers p k h)
  appended_agrees s t f g numbers children (component_at p c) e d h =
      let there : child_at t.children p ≡ Some h.0 = ap (λ (xs : List (Place × ℕ)). child_at xs p) d ∙ child_stays s.children children p h.0 h.1 in
      ap (λ (o : Option ℕ). child_view f o) h.1 ∙ h.2 ∙ sym (ap (λ (o : Option ℕ). child_view g o) there)
