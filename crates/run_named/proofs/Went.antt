-- The numbers that go where fewer stay are those that stay no more.
use Rattle.std.proofs.Common.{ℕ, Bool, true, false, List, [], ◌∷◌, ◌≡◌, ◌||◌, ◌&&◌, nat_eq, refl, sym, ap, ◌∙◌}
use Rattle.std.specs.Prelude.{not}
use Rattle.std.proofs.lemmas.Bool.{eqb-true}
use Rattle.rt_model.specs.Lists.{has}
use Rattle.rt_model.proofs.Maps.{by_test, eq_same, pick_true, pick_false}
use Rattle.rt_model.proofs.Members.{by_either, clash, or_left, or_right}
use Rattle.run_owed.specs.Lists.{EachOnce}
use Rattle.run_named.specs.Standings.{picked, went}

-- what is picked was there
was_there : (bs : List Bool) (ms : List ℕ) (k : ℕ) → has (picked bs ms) k ≡ true → has ms k ≡ true
was_there [] ms k h = clash h refl
was_there (b ∷ bs) [] k h = h
was_there (true ∷ bs) (m ∷ ms) k h =
    by_either (nat_eq m k) (has (picked bs ms) k) h
    (λ q. or_left (nat_eq m k) (has ms k) q)
    (λ q. or_right (nat_eq m k) (has ms k) (was_there bs ms k q))
was_there (false ∷ bs) (m ∷ ms) k h = or_right (nat_eq m k) (has ms k) (was_there bs ms k h)

-- a number that goes before others
goes_first : (m k : ℕ) (ms ns gone : List ℕ) → has ns m ≡ false → has gone k ≡ (has ms k && not (has ns k)) → has (m ∷ gone) k ≡ (has (m ∷ ms) k && not (has ns k))
goes_first m k ms ns gone out is = by (nat_eq m k) refl
  where
    by : (b : Bool) → nat_eq m k ≡ b → (b || has gone k) ≡ ((b || has ms k) && not (has ns k))
    by true q = ap (λ c. true && not c) (sym out ∙ ap (λ j. has ns j) (eqb-true m k q))
    by false q = is

-- a number that stays before others
stays_first : (m k : ℕ) (ms ns gone : List ℕ) → has ms m ≡ false → has gone k ≡ (has ms k && not (has ns k)) → has gone k ≡ (has (m ∷ ms) k && not (has (m ∷ ns) k))
stays_first m k ms ns gone out is = by (nat_eq m k) refl
  where
    by : (b : Bool) → nat_eq m k ≡ b → has gone k ≡ ((b || has ms k) && not (b || has ns k))
    by true q = is ∙ ap (λ c. c && not (has ns k)) (ap (λ j. has ms j) (sym (eqb-true m k q)) ∙ out)
    by false q = is

pub went_has : (bs : List Bool) (ms : List ℕ) (k : ℕ) → EachOnce ms → has (went ms (picked bs ms)) k ≡ (has ms k && not (has (picked bs ms) k))
went_has [] [] k once = refl
went_has [] (m ∷ ms) k once = goes_first m k ms [] (went ms []) refl (went_has [] ms k once.1)
went_has (b ∷ bs) [] k once = refl
went_has (true ∷ bs) (m ∷ ms) k once =
    ap (λ ns. has ns k) (pick_true (went ms (picked bs ms)) (m ∷ went ms (m ∷ picked bs ms)) (eq_same m))
    ∙ stays_first m k ms (picked bs ms) (went ms (picked bs ms)) once.0 (went_has bs ms k once.1)
went_has (false ∷ bs) (m ∷ ms) k once =
    ap (λ ns. has ns k) (passes (picked bs ms) out)
    ∙ goes_first m k ms (picked bs ms) (went ms (picked bs ms)) out (went_has bs ms k once.1)
  where
    out : has (picked bs ms) m ≡ false
    out = by_test (has (picked bs ms) m) (λ q. clash (was_there bs ms m q) once.0) (λ q. q)

    passes : (ns : List ℕ) → has ns m ≡ false → went (m ∷ ms) ns ≡ m ∷ went ms ns
    passes [] none = refl
    passes (n ∷ ns) none =
        let other : nat_eq m n ≡ false =
        by_test (nat_eq m n) (λ q. clash (or_left (nat_eq n m) (has ns m) (ap (λ j. nat_eq j m) (sym (eqb-true m n q)) ∙ eq_same m)) none) (λ q. q) in
        pick_false (went ms ns) (m ∷ went ms (n ∷ ns)) other
