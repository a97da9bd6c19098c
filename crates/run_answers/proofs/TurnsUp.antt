-- Something posted comes up where a marked scope is live, or a woken task is active.
use Rattle.std.proofs.Common.{◌≡◌, ◌≢◌, ℕ, Bool, true, false, List, [], ◌∷◌, ◌||◌, refl, ap, sym, ◌∙◌}
use Rattle.std.specs.Prelude.{is_some, if◌then◌else◌}
use Rattle.rt_model.specs.Lists.{at, has}
use Rattle.rt_model.specs.Tree.{Types}
use Rattle.rt_model.specs.State.{Posted, Mark, Woken, Scope, TaskRow, State}
use Rattle.run_owed.specs.Lists.{marks_in, numbers_of, wakes_in}
use Rattle.run_owed.specs.Owing.{living}
use Rattle.run_answers.specs.Owed.{active_in, any_active, any_live, sees_any, turns_up}
use Rattle.run_answers.proofs.Dues.{inactive_gone}

-- whether there is one, by two ways
pub any_told : (b : Bool) (ns : List ℕ) → (b ≡ true → ns ≢ []) → (ns ≢ [] → b ≡ true) → b ≡ sees_any ns
any_told true [] some none = absurd (some refl refl)
any_told true (n ∷ ns) some none = refl
any_told false [] some none = refl
any_told false (n ∷ ns) some none = none (λ is. absurd (cc is))

module _ {K : Types} where
  -- one of these scopes is live where one of them is entered
  live_living : (scopes : List (ℕ × Scope K)) (entered : List (ℕ × ℕ)) → ((s : ℕ) → is_some (at scopes s) ≡ has (numbers_of entered) s) → (ms : List ℕ) → any_live scopes ms ≡ sees_any (living entered ms)
  live_living scopes entered same [] = refl
  live_living scopes entered same (m ∷ ms) =
      ap (λ (b : Bool). b || any_live scopes ms) (same m) ∙ by (has (numbers_of entered) m) (live_living scopes entered same ms)
    where
      by : (b : Bool) → any_live scopes ms ≡ sees_any (living entered ms) → (b || any_live scopes ms) ≡ sees_any (if b then m ∷ living entered ms else living entered ms)
      by true rest = refl
      by false rest = rest

  -- one of these tasks is active where one of those that are entered is
  pub active_living : (tasks : List (ℕ × TaskRow K)) (entered : List (ℕ × ℕ)) → ((t : ℕ) → is_some (at tasks t) ≡ has (numbers_of entered) t) → (ts : List ℕ) → any_active tasks (living entered ts) ≡ any_active tasks ts
  active_living tasks entered same [] = refl
  active_living tasks entered same (t ∷ ts) = by (has (numbers_of entered) t) refl (active_living tasks entered same ts)
    where
      by : (b : Bool) → has (numbers_of entered) t ≡ b → any_active tasks (living entered ts) ≡ any_active tasks ts
          → any_active tasks (if b then t ∷ living entered ts else living entered ts) ≡ (active_in tasks t || any_active tasks ts)
      by true own rest = ap (λ (b : Bool). active_in tasks t || b) rest
      by false own rest = rest ∙ sym (ap (λ (b : Bool). b || any_active tasks ts) (inactive_gone tasks t (same t ∙ own)))

  -- marks and wakes apart
  apart : (scopes : List (ℕ × Scope K)) (tasks : List (ℕ × TaskRow K)) (ps : List Posted) → turns_up scopes tasks ps ≡ any_live scopes (marks_in ps) || any_active tasks (wakes_in ps)
  apart scopes tasks [] = refl
  apart scopes tasks (Mark s ∷ ps) = ap (λ b. is_some (at scopes s) || b) (apart scopes tasks ps) ∙ turn (is_some (at scopes s)) (any_live scopes (marks_in ps)) (any_active tasks (wakes_in ps))
    where
      turn : (a b c : Bool) → a || (b || c) ≡ (a || b) || c
      turn true b c = refl
      turn false b c = refl
  apart scopes tasks (Woken t ∷ ps) = ap (λ b. active_in tasks t || b) (apart scopes tasks ps) ∙ swap (active_in tasks t) (any_live scopes (marks_in ps)) (any_active tasks (wakes_in ps))
    where
      swap : (a b c : Bool) → a || (b || c) ≡ b || (a || c)
      swap true true c = refl
      swap true false c = refl
      swap false true c = refl
      swap false false c = refl

  -- what turns up, of what is kept
  pub turned_up : (w : State K) (entered : List (ℕ × ℕ)) (marked woken : Bool) → ((s : ℕ) → is_some (at w.scopes s) ≡ has (numbers_of entered) s)
      → marked ≡ sees_any (living entered (marks_in w.posted)) → woken ≡ any_active w.tasks (wakes_in w.posted)
      → (marked || woken) ≡ turns_up w.scopes w.tasks w.posted
  turned_up w entered marked woken same marks wakes =
      (λ i. (marks ∙ sym (live_living w.scopes entered same (marks_in w.posted))) i || wakes i) ∙ sym (apart w.scopes w.tasks w.posted)
