-- Scopes go one after another, from the greatest order down.
use Rattle.run_records.specs.Kept.{each}
use Rattle.std.proofs.Common.{ℕ, zero, suc, ◌+◌, ◌-◌, ◌<◌, ◌≤◌, List, [], ◌∷◌, ◌≡◌, refl, ap, ◌∙◌, length, arith}
use Rattle.std.specs.Prelude.{Option, Some, None}
use Rattle.rt_lemmas.proofs.Numbers.{fewer, none_left}
use Rattle.rt_model.specs.Tree.{Types}
use Rattle.rt_model.specs.World.{Application}
use Rattle.rt_model.specs.State.{State, Outcome, Done, onward}
use Rattle.rt_model.specs.Next.{is_before, least}
use Rattle.rt_model.specs.Removal.{closes, numbers_of, removed_apart}

module _ {K : Types} (app : Application K) where
  -- the last one goes next
  pub closes_on : (n i : ℕ) (w : State K) (s : ℕ) → i < n → least (λ a b. is_before w.scopes b a) (numbers_of w.scopes) ≡ Some s
      → closes app (n - i) w ≡ onward (removed_apart app w s) (λ v. closes app (n - (i + 1)) v)
  closes_on n i w s before is =
      ap (λ (m : ℕ). closes app m w) (fewer n i before)
      ∙ ap (λ (o : Option ℕ). elim o as (λ z. Outcome K) [ None ↦ Done w [] | Some t ↦ onward (removed_apart app w t) (λ v. closes app (n - (i + 1)) v) ]) is

  -- where none is left nothing is done
  pub closes_none : (n : ℕ) (w : State K) → least (λ a b. is_before w.scopes b a) (numbers_of w.scopes) ≡ None → closes app n w ≡ Done w []
  closes_none zero w is = refl
  closes_none (suc n) w is =
      ap (λ (o : Option ℕ). elim o as (λ z. Outcome K) [ None ↦ Done w [] | Some t ↦ onward (removed_apart app w t) (λ v. closes app n v) ]) is

  pub closes_end : (n i : ℕ) (w : State K) → n ≤ i → closes app (n - i) w ≡ Done w []
  closes_end n i w end = ap (λ (m : ℕ). closes app m w) (none_left n i end)

  pub closes_begin : (n m : ℕ) (w : State K) → n ≡ m → closes app n w ≡ closes app (m - 0) w
  closes_begin n m w same = ap (λ (k : ℕ). closes app k w) (same ∙ all_left m)
    where
      all_left : (k : ℕ) → k ≡ k - 0
      all_left k = omega arith

pub length-each : {A B : Type 0} (f : A → B) (es : List (ℕ × A)) → length (each f es) ≡ length es
length-each f [] = refl
length-each f (e ∷ es) = ap suc (length-each f es)
