-- The tasks of a line are met one by one.
use Rattle.std.proofs.Common.{◌≡◌, ℕ, suc, ◌<◌, Bool, true, false, List, [], ◌∷◌, ◌||◌, length, nat_eq, refl, ap, sym, ◌∙◌, arith}
use Rattle.std.specs.Prelude.{Option, Some, None, if◌then◌else◌}
use Rattle.std.specs.List.{list_any}
use Rattle.std.proofs.lemmas.Bool.{eqb-true}
use Rattle.rt_model.specs.Lists.{has}
use Rattle.rt_model.specs.Tree.{Types}
use Rattle.rt_model.specs.State.{TaskRow}
use Rattle.rt_model.proofs.Maps.{by_test, eq_same, pick_false, pick_true}
use Rattle.rt_model.proofs.Members.{clash, or_left, or_right}
use Rattle.rt_sched.specs.declared.order.ScopeOrder.{ScopeOrder}
use Rattle.run_owed.specs.Lists.{EachOnce}
use Rattle.run_owed.specs.Orders.{first_number}
use Rattle.run_owed.specs.Stands.{behind_number, in_turn}
use Rattle.run_owed.proofs.Turns.{any_in_turn}
use Rattle.run_answers.specs.Owed.{active_in, after_last, any_active}

-- the first one behind another is one of them
behind_in : (t u : ℕ) (ns us : List ℕ) → behind_number t ns ≡ u ∷ us → has ns u ≡ true
behind_in t u [] us is = absurd (cc is)
behind_in t u (m ∷ ms) us is =
    by_test (nat_eq t m)
    (λ q.
    let own : ms ≡ u ∷ us = sym (pick_true ms (behind_number t ms) q) ∙ is in
    or_right (nat_eq m u) (has ms u) (ap (λ (ns : List ℕ). has ns u) own ∙ or_left (nat_eq u u) (has us u) (eq_same u)))
    (λ q. or_right (nat_eq m u) (has ms u) (behind_in t u ms us (sym (pick_false ms (behind_number t ms) q) ∙ is)))

other : (u m : ℕ) (ms : List ℕ) → has ms u ≡ true → has ms m ≡ false → nat_eq u m ≡ false
other u m ms there none = by_test (nat_eq u m) (λ r. clash (ap (λ (n : ℕ). has ms n) (sym (eqb-true u m r)) ∙ there) none) (λ r. r)

-- behind it come those that come behind both
behind_rest : (t u : ℕ) (ns us : List ℕ) → EachOnce ns → behind_number t ns ≡ u ∷ us → behind_number u ns ≡ us
behind_rest t u [] us once is = absurd (cc is)
behind_rest t u (m ∷ ms) us once is =
    by_test (nat_eq t m)
    (λ q.
    let own : ms ≡ u ∷ us = sym (pick_true ms (behind_number t ms) q) ∙ is in
    let there : has ms u ≡ true = ap (λ (ns : List ℕ). has ns u) own ∙ or_left (nat_eq u u) (has us u) (eq_same u) in
    pick_false ms (behind_number u ms) (other u m ms there once.0)
    ∙ ap (λ (ns : List ℕ). behind_number u ns) own
    ∙ pick_true us (behind_number u us) (eq_same u))
    (λ q.
    let rest : behind_number t ms ≡ u ∷ us = sym (pick_false ms (behind_number t ms) q) ∙ is in
    pick_false ms (behind_number u ms) (other u m ms (behind_in t u ms us rest) once.0) ∙ behind_rest t u ms us once.1 rest)

same : {a b : ℕ} → Some a ≡ Some b → a ≡ b
same is = cc

-- what is left begins with the next one
pub next_of : (last : Option ℕ) (t : ℕ) (all : List ℕ) → EachOnce all → Some t ≡ first_number (after_last last all) → after_last last all ≡ t ∷ behind_number t all
next_of None t [] once is = absurd (cc is)
next_of None t (n ∷ ns) once is =
    let own : t ≡ n = same is in
    λ i. sym own i ∷ sym (pick_true ns (behind_number t ns) (ap (λ (k : ℕ). nat_eq t k) (sym own) ∙ eq_same t)) i
next_of (Some s) t all once is = by (behind_number s all) refl
  where
    by : (rest : List ℕ) → behind_number s all ≡ rest → behind_number s all ≡ t ∷ behind_number t all
    by [] e = absurd (cc (is ∙ ap first_number e))
    by (u ∷ us) e =
        let own : t ≡ u = same (is ∙ ap first_number e) in
        e ∙ (λ i. sym own i ∷ sym (ap (λ (k : ℕ). behind_number k all) own ∙ behind_rest s u all us once e) i)

none_of : (last : Option ℕ) (all : List ℕ) → None ≡ first_number (after_last last all) → after_last last all ≡ []
none_of last all is = by (after_last last all) is
  where
    by : (ns : List ℕ) → None ≡ first_number ns → ns ≡ []
    by [] none = refl
    by (n ∷ ns) none = absurd (cc none)

pub fewer_left : (last : Option ℕ) (t : ℕ) (all : List ℕ) → EachOnce all → Some t ≡ first_number (after_last last all) → length (behind_number t all) < length (after_last last all)
fewer_left last t all once is =
    let long : length (after_last last all) ≡ suc (length (behind_number t all)) = ap (λ (ns : List ℕ). length ns) (next_of last t all once is) in
    omega (arith, long)

module _ {K : Types} (tasks : List (ℕ × TaskRow K)) where
  -- the next one is active
  pub active_first : (last : Option ℕ) (t : ℕ) (all : List ℕ) → EachOnce all → Some t ≡ first_number (after_last last all) → active_in tasks t ≡ true → any_active tasks (after_last last all) ≡ true
  active_first last t all once is on =
      ap (λ (ns : List ℕ). any_active tasks ns) (next_of last t all once is) ∙ ap (λ (b : Bool). b || any_active tasks (behind_number t all)) on

  -- or one behind it is
  pub active_behind : (last : Option ℕ) (t : ℕ) (all : List ℕ) → EachOnce all → Some t ≡ first_number (after_last last all) → active_in tasks t ≡ false
      → any_active tasks (behind_number t all) ≡ any_active tasks (after_last last all)
  active_behind last t all once is off =
      sym (ap (λ (ns : List ℕ). any_active tasks ns) (next_of last t all once is) ∙ ap (λ (b : Bool). b || any_active tasks (behind_number t all)) off)

  -- where no one is left, none is
  pub none_active : (last : Option ℕ) (all : List ℕ) → None ≡ first_number (after_last last all) → false ≡ any_active tasks (after_last last all)
  none_active last all is = sym (ap (λ (ns : List ℕ). any_active tasks ns) (none_of last all is))

  active_test : (ns : List ℕ) → any_active tasks ns ≡ list_any (λ n. active_in tasks n) ns
  active_test [] = refl
  active_test (n ∷ ns) = ap (λ (b : Bool). active_in tasks n || b) (active_test ns)

  -- in their turn as in the order of joining
  pub active_in_turn : (order : ℕ → ScopeOrder) (ns : List ℕ) → any_active tasks (in_turn order ns) ≡ any_active tasks ns
  active_in_turn order ns = active_test (in_turn order ns) ∙ any_in_turn (λ n. active_in tasks n) order ns ∙ sym (active_test ns)
