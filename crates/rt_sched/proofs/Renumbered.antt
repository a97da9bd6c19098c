-- A line whose first places are counted anew.
use Rattle.std.proofs.Common.{◌≡◌, ℕ, true, false, cond, ◌||◌, List, [], ◌∷◌, ◌++◌, ◌<◌, ◌≤◌, ◌+◌, length, map, eqb, refl, ap, ◌∙◌, sym, subst, ⊎_elim, arith, Option, Some}
use Rattle.std.proofs.lemmas.Grind.{common_steps}
use Rattle.std.proofs.lemmas.Bool.{or_cases, or_parts, or_right, or_left, or_from, eqb-true, eq-eqb, ne_eqb, eqb-false, both_ways, cases_Bool}
use Rattle.std.proofs.lemmas.Bool.Decides.{nat_tests}
use Rattle.std.proofs.lemmas.Map.Made.{length-le_from_is_member}
use Rattle.std.proofs.lemmas.Map.Keys.{IsDistinct-cons}
use Rattle.std.specs.List.{IsDistinct, AllByRecursion}
use Rattle.std.specs.Set.{is_member as among}
use Rattle.std.specs.Cmp.{nat_cmp_total, eq_by_cmp_equiv}
use Rattle.std.specs.Ordering.{nat_cmp, eq_by_cmp}
use Rattle.rt_lemmas.proofs.Bools.{or_swapped as or_swap}
use Rattle.rt_lemmas.proofs.Numbers.{eqb_turned as eqb_flip}
use Rattle.rt_sched.specs.Order.{order_before}
use Rattle.rt_sched.specs.Seats.{seat_of, members_of}
use Rattle.rt_sched.specs.Places.{place_before, same_place, IsInOrder, NoneBefore, with_place, has_place}
use Rattle.rt_sched.specs.Lines.{waits, who_waits, has_number, IsLine, AllArrivedBelow, AllOnce, standing}
use Rattle.rt_sched.specs.declared.order.ScopeOrder.{ScopeOrder}
use Rattle.rt_sched.specs.declared.place.Place.{Place}
use Rattle.rt_sched.specs.declared.seating.Seat.{Seat}
use Rattle.rt_sched.proofs.PlaceLemmas.{same_place_is, same_place_itself}
use Rattle.rt_sched.proofs.InOrder.{in_order_with_place}
use Rattle.rt_sched.proofs.Waits.{placed_waits, waiting_place, below_with_place, below_more}
use Rattle.rt_sched.proofs.Seats.{is_member, is_some_place}

-- no order of these places is before o
abbrev pub NoneAfter : ScopeOrder → List Place → Type 0
NoneAfter o [] = Unit {0}
NoneAfter o (p ∷ ps) = (order_before o p.order ≡ false) × NoneAfter o ps

-- no order of the second places is before one of the first
abbrev pub InTurn : List Place → List Place → Type 0
InTurn done [] = Unit {0}
InTurn done (p ∷ ps) = NoneAfter p.order done × InTurn done ps

-- a line of which the first places are counted anew, and the rest not yet
pub record IsRenumbering (stand : ℕ → Option Place) (done rest : List Place) (arrival : ℕ) : Type 0 where
  pub done_in_order : IsInOrder done
  pub rest_in_order : IsInOrder rest
  pub in_turn : InTurn done rest
  pub below : AllArrivedBelow arrival done
  pub counted : length done ≡ arrival
  pub once : AllOnce (done ++ rest)
  pub stands : (n : ℕ) (p : Place) → stand n ≡ Some p → (has_place p (done ++ rest) ≡ true) × (p.number ≡ n)
  pub seated : (p : Place) → has_place p (done ++ rest) ≡ true → stand p.number ≡ Some p

has_place_middle_or : (p : Place) (l : List Place) (x : Place) (r : List Place) → has_place p (l ++ x ∷ r) ≡ (same_place p x || has_place p (l ++ r))
has_place_middle_or p [] x r = refl
has_place_middle_or p (q ∷ l) x r = ap (λ b. same_place p q || b) (has_place_middle_or p l x r) ∙ or_swap (same_place p q) (same_place p x) (has_place p (l ++ r))

waits_middle_or : (n : ℕ) (l : List Place) (x : Place) (r : List Place) → waits n (who_waits (l ++ x ∷ r)) ≡ (eqb n x.number || waits n (who_waits (l ++ r)))
waits_middle_or n [] x r = refl
waits_middle_or n (q ∷ l) x r = ap (λ b. eqb n q.number || b) (waits_middle_or n l x r) ∙ or_swap (eqb n q.number) (eqb n x.number) (waits n (who_waits (l ++ r)))

once_middle : (l : List Place) (x : Place) (r : List Place) → AllOnce (l ++ x ∷ r) → waits x.number (who_waits (l ++ r)) ≡ false
once_middle [] x r s = s.0
once_middle (q ∷ l) x r s =
    let parts = or_parts (eqb q.number x.number) (waits q.number (who_waits (l ++ r))) (sym (waits_middle_or q.number l x r) ∙ s.0) in
    or_from _ _ (eqb_flip x.number q.number ∙ parts.0) (once_middle l x r s.1)

same_once : (ps qs : List Place) → who_waits ps ≡ who_waits qs → AllOnce ps → AllOnce qs
same_once [] [] e s = tt
same_once [] (q ∷ qs) e s = absurd cc
same_once (p ∷ ps) [] e s = tt
same_once (p ∷ ps) (q ∷ qs) e s =
    let head : (p.order, p.number) ≡ (q.order, q.number) = cc in
    let number : p.number ≡ q.number = ap (λ (e : ScopeOrder × ℕ). e.1) head in
    let rest : who_waits ps ≡ who_waits qs = cc in
    (subst (λ n. waits n (who_waits qs) ≡ false) number (subst (λ es. waits p.number es ≡ false) rest s.0), same_once ps qs rest s.1)

-- the same member at another place of the same order
pub who_waits_moved : (l : List Place) (x y : Place) (r : List Place) → x.order ≡ y.order → x.number ≡ y.number → who_waits (l ++ x ∷ r) ≡ who_waits (l ++ y ∷ r)
who_waits_moved [] x y r o n = let same : (x.order, x.number) ≡ (y.order, y.number) = cc in ap (λ e. e ∷ who_waits r) same
who_waits_moved (q ∷ l) x y r o n = ap (λ es. (q.order, q.number) ∷ es) (who_waits_moved l x y r o n)

-- ---- the next place is counted
last_place : (x q : Place) → q.arrival < x.arrival → order_before x.order q.order ≡ false → place_before x q ≡ false
last_place x q h n = grind (arith, nat_tests)

pub with_last_place : (x : Place) (done : List Place) → AllArrivedBelow x.arrival done → NoneAfter x.order done → with_place x done ≡ done ++ x ∷ []
with_last_place x [] b n = refl
with_last_place x (q ∷ done) b n = rw (last_place x q b.0 n.0) (ap (λ v. q ∷ v) (with_last_place x done b.1 n.1))

NoneAfter-append : (o : ScopeOrder) (done : List Place) (x : Place) → NoneAfter o done → order_before o x.order ≡ false → NoneAfter o (done ++ x ∷ [])
NoneAfter-append o [] x n h = (h, tt)
NoneAfter-append o (q ∷ done) x n h = (n.0, NoneAfter-append o done x n.1 h)

not_sooner : (p q : Place) → place_before q p ≡ false → order_before q.order p.order ≡ false
not_sooner p q h = grind (arith, nat_tests)

InTurn-append : (done : List Place) (x y : Place) (rest : List Place) → x.order ≡ y.order → NoneBefore x rest → InTurn done rest → InTurn (done ++ y ∷ []) rest
InTurn-append done x y [] o n t = tt
InTurn-append done x y (q ∷ rest) o n t =
    let late : order_before q.order y.order ≡ false = subst (λ (p : ScopeOrder). order_before q.order p ≡ false) o (not_sooner x q n.0) in
    (NoneAfter-append q.order done y t.0 late, InTurn-append done x y rest o n.1 t.1)

length_last : (done : List Place) (x : Place) → length (done ++ x ∷ []) ≡ length done + 1
length_last done x = grind (arith, common_steps)

append_last : (done : List Place) (x : Place) (rest : List Place) → (done ++ x ∷ []) ++ rest ≡ done ++ x ∷ rest
append_last [] x rest = refl
append_last (q ∷ done) x rest = ap (λ v. q ∷ v) (append_last done x rest)

-- what is left after a count is where it was, and the next place is at its new one
pub renumber_next : (f g : ℕ → Option Place) (done : List Place) (x y : Place) (rest : List Place) (a : ℕ) → IsRenumbering f done (x ∷ rest) a
    → y.order ≡ x.order → y.number ≡ x.number → y.arrival ≡ a → ((q : ℕ) → g q ≡ cond (eqb q y.number) (Some y) (f q)) → IsRenumbering g (with_place y done) rest (a + 1)
renumber_next f g done x y rest a r o m at e =
    let b : AllArrivedBelow y.arrival done = rw at r.below in
    let first : NoneAfter y.order done = rw o r.in_turn.0 in
    let is : with_place y done ≡ done ++ y ∷ [] = with_last_place y done b first in
    let all : with_place y done ++ rest ≡ done ++ y ∷ rest = rw is (append_last done y rest) in
    let who = who_waits_moved done x y rest (sym o) (sym m) in
    let once : AllOnce (done ++ y ∷ rest) = same_once (done ++ x ∷ rest) (done ++ y ∷ rest) who r.once in
    let absent = once_middle done y rest once in
    record {
      done_in_order = in_order_with_place y done r.done_in_order;
      rest_in_order = r.rest_in_order.1;
      in_turn = rw is (InTurn-append done x y rest (sym o) r.rest_in_order.0 r.in_turn.1);
      below = below_with_place (a + 1) y done (omega (arith, at)) (below_more a (a + 1) done (omega arith) r.below);
      counted = ap length is ∙ length_last done y ∙ ap (λ n. n + 1) r.counted;
      once = rw all once;
      stands = λ n p h.
          ⊎_elim (λ (i : eqb n y.number ≡ true).
          let same : Some y ≡ Some p = sym (e n ∙ rw i refl) ∙ h in
          let is_y : y ≡ p = cc in
          (rw all (has_place_middle_or p done y rest ∙ or_left _ _ (subst (λ (q : Place). same_place p q ≡ true) (sym is_y) (same_place_itself p))), subst (λ (q : Place). q.number ≡ n) is_y (sym (eqb-true n y.number i))))
          (λ (i : eqb n y.number ≡ false).
          let s = r.stands n p (sym (e n ∙ rw i refl) ∙ h) in
          let apart : same_place p x ≡ false = ⊎_elim (λ (t : same_place p x ≡ true). absurd (eqb-false n y.number i (sym s.1 ∙ ap (λ (q : Place). q.number) (same_place_is p x t) ∙ sym m))) (λ (t : same_place p x ≡ false). t) (cases_Bool (same_place p x)) in
          let there : has_place p (done ++ rest) ≡ true = ⊎_elim (λ (t : same_place p x ≡ true). absurd (both_ways _ apart t)) (λ (t : has_place p (done ++ rest) ≡ true). t) (or_cases (same_place p x) (has_place p (done ++ rest)) (sym (has_place_middle_or p done x rest) ∙ s.0)) in
          (rw all (has_place_middle_or p done y rest ∙ or_right _ _ there), s.1)) (cases_Bool (eqb n y.number));
      seated = λ p h.
          ⊎_elim (λ (i : same_place p y ≡ true).
          let is_y = same_place_is p y i in
          e p.number ∙ rw (eq-eqb p.number y.number (ap (λ (q : Place). q.number) is_y)) (ap Some (sym is_y)))
          (λ (i : has_place p (done ++ rest) ≡ true).
          let other : eqb p.number y.number ≡ false = ne_eqb p.number y.number (λ s. both_ways _ absent (subst (λ (k : ℕ). waits k (who_waits (done ++ rest)) ≡ true) s (placed_waits p (done ++ rest) i))) in
          e p.number ∙ rw other (r.seated p (has_place_middle_or p done x rest ∙ or_right _ _ i))) (or_cases (same_place p y) (has_place p (done ++ rest)) (sym (has_place_middle_or p done y rest) ∙ rw all at h));
    }

pub who_waits_next : (f : ℕ → Option Place) (done : List Place) (x y : Place) (rest : List Place) (a : ℕ) → IsRenumbering f done (x ∷ rest) a
    → y.order ≡ x.order → y.number ≡ x.number → y.arrival ≡ a → who_waits (with_place y done ++ rest) ≡ who_waits (done ++ x ∷ rest)
who_waits_next f done x y rest a r o m at =
    let b : AllArrivedBelow y.arrival done = rw at r.below in
    let first : NoneAfter y.order done = rw o r.in_turn.0 in
    let is : with_place y done ≡ done ++ y ∷ [] = with_last_place y done b first in
    let all : with_place y done ++ rest ≡ done ++ y ∷ rest = rw is (append_last done y rest) in
    rw all (sym (who_waits_moved done x y rest (sym o) (sym m)))

-- who stands first of the rest is a member
pub next_is_member : (m : List (ℕ × Seat)) (done : List Place) (x : Place) (rest : List Place) (a : ℕ) → IsRenumbering (standing m) done (x ∷ rest) a → has_number x.number (members_of m) ≡ true
next_is_member m done x rest a r =
    let here = has_place_middle_or x done x rest ∙ or_left _ _ (same_place_itself x) in
    is_member x.number m ∙ is_some_place (seat_of m x.number) x (r.seated x here)

-- ---- no more wait than are members
abbrev numbers : List Place → List ℕ
numbers ps = map (λ (p : Place). p.number) ps

apart_from_waits : (n : ℕ) (ps : List Place) → waits n (who_waits ps) ≡ false → AllByRecursion (λ m. eq_by_cmp nat_cmp n m ≡ false) (numbers ps)
apart_from_waits n [] h = tt
apart_from_waits n (p ∷ ps) h =
    let parts = or_parts (eqb n p.number) (waits n (who_waits ps)) h in
    let a : eqb n p.number ≡ false = parts.0 in
    (grind (arith, nat_tests), apart_from_waits n ps parts.1)

numbers_distinct : (ps : List Place) → AllOnce ps → IsDistinct (eq_by_cmp nat_cmp) (numbers ps)
unfolding IsDistinct
numbers_distinct [] s = tt
numbers_distinct (p ∷ ps) s = IsDistinct-cons (eq_by_cmp nat_cmp) p.number (numbers ps) (apart_from_waits p.number ps s.0) (numbers_distinct ps s.1)

waits_from_among : (n : ℕ) (ps : List Place) → among (eq_by_cmp nat_cmp) (numbers ps) n ≡ true → waits n (who_waits ps) ≡ true
waits_from_among n [] h = h
waits_from_among n (p ∷ ps) h =
    ⊎_elim (λ (i : eq_by_cmp nat_cmp n p.number ≡ true). let same : eqb n p.number ≡ true = grind (arith, nat_tests) in or_left _ _ same)
    (λ (i : among (eq_by_cmp nat_cmp) (numbers ps) n ≡ true). or_right _ _ (waits_from_among n ps i)) (or_cases (eq_by_cmp nat_cmp n p.number) (among (eq_by_cmp nat_cmp) (numbers ps) n) h)

pub no_more_than_members : (m : List (ℕ × Seat)) (done rest : List Place) (a : ℕ) → IsRenumbering (standing m) done rest a → length (done ++ rest) ≤ length (members_of m)
no_more_than_members m done rest a r =
    let ps = done ++ rest in
    let shorter : length (numbers ps) ≤ length (members_of m) = length-le_from_is_member (eq_by_cmp_equiv nat_cmp_total) (numbers ps) (members_of m) (numbers_distinct ps r.once)
    (λ q h.
    let w = waiting_place q ps (waits_from_among q ps h) in
    is_member q m ∙ is_some_place (seat_of m q) w.0 (ap (standing m) w.2 ∙ r.seated w.0 w.1)) in
    let same : length (numbers ps) ≡ length ps = search (common_steps) in
    omega arith

-- ---- the start and the end
in_turn_start : (rest : List Place) → InTurn [] rest
in_turn_start [] = tt
in_turn_start (p ∷ rest) = (tt, in_turn_start rest)

pub renumber_start : (f : ℕ → Option Place) (ps : List Place) (a : ℕ) → IsLine f ps a → IsRenumbering f [] ps 0
renumber_start f ps a l = record {
  done_in_order = tt;
  rest_in_order = l.in_order;
  in_turn = in_turn_start ps;
  below = tt;
  counted = refl;
  once = l.once;
  stands = l.stands;
  seated = l.seated;
}

append_none : (l : List Place) → l ++ [] ≡ l
append_none [] = refl
append_none (p ∷ l) = ap (λ v. p ∷ v) (append_none l)

pub renumber_end : (f : ℕ → Option Place) (done rest : List Place) (a m : ℕ) → IsRenumbering f done rest a → rest ≡ [] → a ≤ m → IsLine f done m
renumber_end f done rest a m r none le =
    let all : done ++ rest ≡ done = rw none (append_none done) in
    record {
      in_order = r.done_in_order;
      below = below_more a m done (omega arith) r.below;
      once = subst AllOnce all r.once;
      stands = λ n p h. let s = r.stands n p h in (subst (λ ps. has_place p ps ≡ true) all s.0, s.1);
      seated = λ p h. r.seated p (subst (λ ps. has_place p ps ≡ true) (sym all) h);
    }

pub who_waits_end : (done rest : List Place) → rest ≡ [] → who_waits (done ++ rest) ≡ who_waits done
who_waits_end done rest none = ap who_waits (rw none (append_none done))

pub none_left : (done rest : List Place) (n : ℕ) → length done ≡ n → length (done ++ rest) ≤ n → rest ≡ []
none_left done [] n h le = refl
none_left done (p ∷ rest) n h le = absurd (grind (arith, common_steps))
