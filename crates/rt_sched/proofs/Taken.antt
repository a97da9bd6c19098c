-- Seats in rows: what a look finds, and what a seat more or less changes.
use Rattle.std.proofs.Common.{◌≡◌, ◌≢◌, ℕ, zero, suc, ◌+◌, ◌-◌, ◌<◌, ◌≤◌, Bool, true, false, cond, List, [], ◌∷◌, ◌++◌, length, get_or, Option, Some, None, Result, Ok, Err, IfSome, IfNone, eqb, refl, ap, subst, sym, ◌∙◌, ⊎_elim, arith}
use Rattle.std.specs.Prelude.{slice_set, is_some}
use Rattle.std.specs.List.{filter}
use Rattle.std.specs.List.Sorted.{IsSearchInRange, IsBinarySearchResult, IsNonDecreasingBy}
use Rattle.std.specs.Ordering.{nat_cmp, is_eq, ordering_index}
use Rattle.std.specs.Result.{result_ok}
use Rattle.std.proofs.lemmas.Bool.{cases_Bool, eqb-true, both_ways}
use Rattle.std.proofs.lemmas.Bool.Decides.{nat_tests}
use Rattle.std.proofs.lemmas.Cmp.{ranked}
use Rattle.rt_lemmas.proofs.Numbers.{eq_true, eq_false, eq_above, eq_below, ties, ties_back}
use Rattle.rt_sched.specs.Seats.{and_taken, taken, Rises, seat_of, members_of}
use Rattle.rt_sched.specs.declared.seating.Seat.{Seat}

-- ---- numbers that rise
-- from one on they rise from any below it on
rises_from : (rows : List (ℕ × Option Seat)) (low high : ℕ) → low ≤ high → Rises high rows → Rises low rows
rises_from [] low high le up = tt
rises_from (r ∷ rows) low high le up = (omega (arith, le, up.0), up.1)

-- each is at least the one that they rise from
rises_at : (rows : List (ℕ × Option Seat)) (low i : ℕ) (d : ℕ × Option Seat) → i < length rows → Rises low rows → low ≤ (get_or rows i d).0
rises_at [] low i d within up = absurd (omega (arith, within))
rises_at (r ∷ rows) low zero d within up = up.0
rises_at (r ∷ rows) low (suc i) d within up =
    let rest : r.0 + 1 ≤ (get_or rows i d).0 = rises_at rows (r.0 + 1) i d (omega (arith, within)) up.1 in
    omega (arith, rest, up.0)

-- and below those behind it
ascends : (rows : List (ℕ × Option Seat)) (low : ℕ) → Rises low rows → (i j : ℕ) (d : ℕ × Option Seat) → i < j → j < length rows → (get_or rows i d).0 < (get_or rows j d).0
ascends [] low up i j d lt to = absurd (omega (arith, to))
ascends (r ∷ rows) low up zero zero d lt to = absurd (omega (arith, lt))
ascends (r ∷ rows) low up (suc i) zero d lt to = absurd (omega (arith, lt))
ascends (r ∷ rows) low up zero (suc j) d lt to =
    let rest : r.0 + 1 ≤ (get_or rows j d).0 = rises_at rows (r.0 + 1) j d (omega (arith, to)) up.1 in
    omega (arith, rest)
ascends (r ∷ rows) low up (suc i) (suc j) d lt to = ascends rows (r.0 + 1) up.1 i j d (omega (arith, lt)) (omega (arith, to))

-- another seat in a row
pub rises_set : (rows : List (ℕ × Option Seat)) (low i n : ℕ) (v : Option Seat) → i < length rows → ((d : ℕ × Option Seat) → (get_or rows i d).0 ≡ n)
    → Rises low rows → Rises low (slice_set rows i (n, v))
rises_set [] low i n v within own up = absurd (omega (arith, within))
rises_set (r ∷ rows) low zero n v within own up = subst (λ (m : ℕ). (low ≤ m) × Rises (m + 1) rows) (own r) up
rises_set (r ∷ rows) low (suc i) n v within own up = (up.0, rises_set rows (r.0 + 1) i n v (omega (arith, within)) own up.1)

-- rows that are taken out
rises_picked : (b : Bool) (r : ℕ × Option Seat) (rows : List (ℕ × Option Seat)) (low : ℕ) → low ≤ r.0 → Rises (r.0 + 1) rows → Rises low (cond b (r ∷ rows) rows)
rises_picked true r rows low le up = (le, up)
rises_picked false r rows low le up = rises_from rows low (r.0 + 1) (omega (arith, le)) up

pub rises_filter : (test : ℕ × Option Seat → Bool) (rows : List (ℕ × Option Seat)) (low : ℕ) → Rises low rows → Rises low (filter test rows)
rises_filter test [] low up = tt
rises_filter test (r ∷ rows) low up = rises_picked (test r) r (filter test rows) low up.0 (rises_filter test rows (r.0 + 1) up.1)

-- a number that is above the last one is above all
pub all_below : (rows : List (ℕ × Option Seat)) (n : ℕ) → ((k : ℕ) (d : ℕ × Option Seat) → k + 1 ≡ length rows → (get_or rows k d).0 < n) → Rises 0 rows
    → (k : ℕ) (d : ℕ × Option Seat) → k < length rows → (get_or rows k d).0 < n
all_below rows n last up k d to =
    let rise = ascends rows 0 up in
    grind (arith, rise k (length rows - 1) d, last k d, last (length rows - 1) d, to)

-- a row more
rises_more : (rows : List (ℕ × Option Seat)) (low n : ℕ) (v : Option Seat) → low ≤ n → ((k : ℕ) (d : ℕ × Option Seat) → k < length rows → (get_or rows k d).0 < n)
    → Rises low rows → Rises low (rows ++ (n, v) ∷ [])
rises_more [] low n v le less up = (le, tt)
rises_more (r ∷ rows) low n v le less up =
    let first : r.0 < n = less 0 r (omega arith) in
    (up.0, rises_more rows (r.0 + 1) n v (omega (arith, first)) (λ k d to. less (suc k) d (omega (arith, to))) up.1)

pub rises_pushed : (rows : List (ℕ × Option Seat)) (n : ℕ) (v : Option Seat) → ((k : ℕ) (d : ℕ × Option Seat) → k + 1 ≡ length rows → (get_or rows k d).0 < n)
    → Rises 0 rows → Rises 0 (rows ++ (n, v) ∷ [])
rises_pushed rows n v last up = rises_more rows 0 n v (omega arith) (all_below rows n last up) up

-- ---- who sits in them
-- below all of them nobody does
none_below : (rows : List (ℕ × Option Seat)) (n low : ℕ) → n < low → Rises low rows → seat_of (taken rows) n ≡ None
none_below [] n low below up = refl
none_below ((m, None) ∷ rows) n low below up = none_below rows n (m + 1) (omega (arith, below, up.0)) up.1
none_below ((m, Some s) ∷ rows) n low below up =
    ap (λ b. cond b (Some s) (seat_of (taken rows) n)) (ties n m ∙ eq_below n m (omega (arith, below, up.0)))
    ∙ none_below rows n (m + 1) (omega (arith, below, up.0)) up.1

front : (n : ℕ) (v : Option Seat) (es : List (ℕ × Seat)) → seat_of es n ≡ None → (q : ℕ) → seat_of (and_taken n v es) q ≡ cond (eqb q n) v (seat_of es q)
front n None es none q =
    ⊎_elim (λ (t : eqb q n ≡ true). rw t (ap (λ k. seat_of es k) (eqb-true q n t) ∙ none)) (λ (f : eqb q n ≡ false). rw f refl) (cases_Bool (eqb q n))
front n (Some s) es none q = ap (λ b. cond b (Some s) (seat_of es q)) (ties q n)

-- the first row's number sits there
first_row : (r : ℕ × Option Seat) (rows : List (ℕ × Option Seat)) → Rises (r.0 + 1) rows → (q : ℕ) → seat_of (taken (r ∷ rows)) q ≡ cond (eqb q r.0) r.1 (seat_of (taken rows) q)
first_row r rows up = front r.0 r.1 (taken rows) (none_below rows r.0 (r.0 + 1) (omega arith) up)

-- and each row's
pub at_row : (rows : List (ℕ × Option Seat)) (low i n : ℕ) → i < length rows → ((d : ℕ × Option Seat) → (get_or rows i d).0 ≡ n)
    → Rises low rows → (d : ℕ × Option Seat) → (get_or rows i d).1 ≡ seat_of (taken rows) n
at_row [] low i n within own up d = absurd (omega (arith, within))
at_row (r ∷ rows) low zero n within own up d = sym (first_row r rows up.1 n ∙ rw (eq_true n r.0 (sym (own d))) refl)
at_row (r ∷ rows) low (suc i) n within own up d =
    let behind : r.0 + 1 ≤ n = subst (λ (k : ℕ). r.0 + 1 ≤ k) (own d) (rises_at rows (r.0 + 1) i d (omega (arith, within)) up.1) in
    at_row rows (r.0 + 1) i n (omega (arith, within)) own up.1 d ∙ sym (first_row r rows up.1 n ∙ rw (eq_above r.0 n (omega (arith, behind))) refl)

-- a number without a row sits nowhere
pub no_row : (rows : List (ℕ × Option Seat)) (n : ℕ) → ((k : ℕ) (d : ℕ × Option Seat) → k < length rows → (get_or rows k d).0 ≢ n) → seat_of (taken rows) n ≡ None
no_row [] n other = refl
no_row ((m, None) ∷ rows) n other = no_row rows n (λ k d to. other (suc k) d (omega (arith, to)))
no_row ((m, Some s) ∷ rows) n other =
    ap (λ b. cond b (Some s) (seat_of (taken rows) n)) (ties_back n m ∙ eq_false m n (other 0 (m, None) (omega arith)))
    ∙ no_row rows n (λ k d to. other (suc k) d (omega (arith, to)))

-- nor does one above the last one
pub none_above : (rows : List (ℕ × Option Seat)) (n : ℕ) → ((k : ℕ) (d : ℕ × Option Seat) → k + 1 ≡ length rows → (get_or rows k d).0 < n) → Rises 0 rows → seat_of (taken rows) n ≡ None
none_above rows n last up = no_row rows n (λ k d to same. let less = all_below rows n last up k d to in omega (arith, less, same))

pub none_empty : (rows : List (ℕ × Option Seat)) (n : ℕ) → length rows ≡ 0 → seat_of (taken rows) n ≡ None
none_empty [] n e = refl
none_empty (r ∷ rows) n e = absurd (omega (arith, e))

-- ---- a seat is changed
again : (b : Bool) (v w x : Option Seat) → cond b v x ≡ cond b v (cond b w x)
again true v w x = refl
again false v w x = refl

swapped : (q m n : ℕ) → m < n → (v w x : Option Seat) → cond (eqb q m) w (cond (eqb q n) v x) ≡ cond (eqb q n) v (cond (eqb q m) w x)
swapped q m n less v w x =
    ⊎_elim (λ (t : eqb q n ≡ true).
    let other : eqb q m ≡ false = ap (λ k. eqb k m) (eqb-true q n t) ∙ eq_above m n less in rw (t, other) refl)
    (λ (f : eqb q n ≡ false). rw f refl) (cases_Bool (eqb q n))

pub written : (rows : List (ℕ × Option Seat)) (low i n : ℕ) (v : Option Seat) → i < length rows → ((d : ℕ × Option Seat) → (get_or rows i d).0 ≡ n)
    → Rises low rows → (q : ℕ) → seat_of (taken (slice_set rows i (n, v))) q ≡ cond (eqb q n) v (seat_of (taken rows) q)
written [] low i n v within own up q = absurd (omega (arith, within))
written (r ∷ rows) low zero n v within own up q =
    let here : r.0 ≡ n = own r in
    let rest : Rises (n + 1) rows = subst (λ (k : ℕ). Rises (k + 1) rows) here up.1 in
    let was : seat_of (taken (r ∷ rows)) q ≡ cond (eqb q n) r.1 (seat_of (taken rows) q) = first_row r rows up.1 q ∙ ap (λ k. cond (eqb q k) r.1 (seat_of (taken rows) q)) here in
    first_row (n, v) rows rest q ∙ again (eqb q n) v r.1 (seat_of (taken rows) q) ∙ ap (λ o. cond (eqb q n) v o) (sym was)
written (r ∷ rows) low (suc i) n v within own up q =
    let behind : r.0 + 1 ≤ n = subst (λ (k : ℕ). r.0 + 1 ≤ k) (own r) (rises_at rows (r.0 + 1) i r (omega (arith, within)) up.1) in
    let after : Rises (r.0 + 1) (slice_set rows i (n, v)) = rises_set rows (r.0 + 1) i n v (omega (arith, within)) own up.1 in
    first_row r (slice_set rows i (n, v)) after q
    ∙ ap (λ o. cond (eqb q r.0) r.1 o) (written rows (r.0 + 1) i n v (omega (arith, within)) own up.1 q)
    ∙ swapped q r.0 n (omega (arith, behind)) v r.1 (seat_of (taken rows) q)
    ∙ ap (λ o. cond (eqb q n) v o) (sym (first_row r rows up.1 q))

-- the members stay
pub same_members : (rows : List (ℕ × Option Seat)) (i n : ℕ) (s : Seat) → i < length rows → ((d : ℕ × Option Seat) → (get_or rows i d).0 ≡ n)
    → ((d : ℕ × Option Seat) → is_some (get_or rows i d).1 ≡ true) → members_of (taken (slice_set rows i (n, Some s))) ≡ members_of (taken rows)
same_members [] i n s within own has = absurd (omega (arith, within))
same_members ((m, None) ∷ rows) zero n s within own has = absurd (both_ways false refl (has (m, None)))
same_members ((m, Some t) ∷ rows) zero n s within own has = ap (λ k. k ∷ members_of (taken rows)) (sym (own (m, None)))
same_members ((m, None) ∷ rows) (suc i) n s within own has = same_members rows i n s (omega (arith, within)) own has
same_members ((m, Some t) ∷ rows) (suc i) n s within own has = ap (λ ms. m ∷ ms) (same_members rows i n s (omega (arith, within)) own has)

-- without the empty rows the seats are the same
pub taken_some : (rows : List (ℕ × Option Seat)) → taken (filter (λ r. is_some r.1) rows) ≡ taken rows
taken_some [] = refl
taken_some ((m, None) ∷ rows) = taken_some rows
taken_some ((m, Some s) ∷ rows) = ap (λ es. (m, s) ∷ es) (taken_some rows)

-- no more sit than there are rows
pub no_more : (rows : List (ℕ × Option Seat)) → length (taken rows) ≤ length rows
no_more [] = omega arith
no_more ((m, None) ∷ rows) = let rest = no_more rows in omega (arith, rest)
no_more ((m, Some s) ∷ rows) = let rest = no_more rows in omega (arith, rest)

-- what holds anyway holds of a seat, and what follows from what holds of one
pub if_all : (o : Option Seat) {Q : Type 0} → Q → IfSome o (λ _. Q)
if_all None q = tt
if_all (Some s) q = q

pub if_some : (o : Option Seat) {P Q : Type 0} → (P → Q) → IfSome o (λ _. P) → IfSome o (λ _. Q)
if_some None f p = tt
if_some (Some s) f p = f p

pub if_none : (o : Option Seat) {P Q : Type 0} → (P → Q) → IfNone o P → IfNone o Q
if_none None f p = f p
if_none (Some s) f p = tt

pub not_none : (o : Option Seat) (Q : Type 0) → is_some o ≡ true → IfNone o Q
not_none None Q has = absurd (both_ways false refl has)
not_none (Some s) Q has = tt

pub none_if : (o : Option Seat) → is_some o ≡ false → o ≡ None
none_if None e = refl
none_if (Some s) e = absurd (both_ways true e refl)

-- ---- seats in rows and others
abbrev pub or_other : Option Seat → Option Seat → Option Seat
or_other None o = o
or_other (Some s) o = Some s

or_nobody : (o : Option Seat) → or_other o None ≡ o
or_nobody None = refl
or_nobody (Some s) = refl

or_cond : (b : Bool) (s : Seat) (o p : Option Seat) → cond b (Some s) (or_other o p) ≡ or_other (cond b (Some s) o) p
or_cond true s o p = refl
or_cond false s o p = refl

-- who sits in neither sits nowhere, and else in the first
pub appended : (xs ys : List (ℕ × Seat)) (q : ℕ) → seat_of (xs ++ ys) q ≡ or_other (seat_of xs q) (seat_of ys q)
appended [] ys q = refl
appended (e ∷ xs) ys q =
    ap (λ o. cond (is_eq (nat_cmp q e.0)) (Some e.1) o) (appended xs ys q) ∙ or_cond (is_eq (nat_cmp q e.0)) e.1 (seat_of xs q) (seat_of ys q)

-- what is found in a row, or else among the others, is found
pub found_row : (xs ys es : List (ℕ × Seat)) (n : ℕ) (s : Seat) → Some s ≡ seat_of xs n → xs ++ ys ≡ es → Some s ≡ seat_of es n
found_row xs ys es n s is view = ap (λ o. or_other o (seat_of ys n)) is ∙ sym (appended xs ys n) ∙ ap (λ e. seat_of e n) view

pub found_here : (xs ys es : List (ℕ × Seat)) (n : ℕ) (o : Option Seat) → is_some o ≡ true → o ≡ seat_of xs n → xs ++ ys ≡ es → o ≡ seat_of es n
found_here xs ys es n None has is view = absurd (both_ways false refl has)
found_here xs ys es n (Some s) has is view = found_row xs ys es n s is view

pub found_other : (xs ys es : List (ℕ × Seat)) (n : ℕ) (o : Option Seat) → None ≡ seat_of xs n → o ≡ seat_of ys n → xs ++ ys ≡ es → o ≡ seat_of es n
found_other xs ys es n o none is view = is ∙ ap (λ p. or_other p (seat_of ys n)) none ∙ sym (appended xs ys n) ∙ ap (λ e. seat_of e n) view

members_appended : (xs ys : List (ℕ × Seat)) → members_of (xs ++ ys) ≡ members_of xs ++ members_of ys
members_appended [] ys = refl
members_appended (e ∷ xs) ys = ap (λ ms. e.0 ∷ ms) (members_appended xs ys)

pub members_row : (xs xs' ys : List (ℕ × Seat)) → members_of xs' ≡ members_of xs → members_of (xs' ++ ys) ≡ members_of (xs ++ ys)
members_row xs xs' ys e = members_appended xs' ys ∙ ap (λ ms. ms ++ members_of ys) e ∙ sym (members_appended xs ys)

pub members_other : (xs ys ys' : List (ℕ × Seat)) → members_of ys' ≡ members_of ys → members_of (xs ++ ys') ≡ members_of (xs ++ ys)
members_other xs ys ys' e = members_appended xs ys' ∙ ap (λ ms. members_of xs ++ ms) e ∙ sym (members_appended xs ys)

-- a seat in a row is that of its number
pub seated_row : (xs xs' ys : List (ℕ × Seat)) (n : ℕ) (s : Seat) → ((q : ℕ) → seat_of xs' q ≡ cond (eqb q n) (Some s) (seat_of xs q))
    → (q : ℕ) → seat_of (xs' ++ ys) q ≡ cond (eqb q n) (Some s) (seat_of (xs ++ ys) q)
seated_row xs xs' ys n s h q =
    appended xs' ys q ∙ ap (λ o. or_other o (seat_of ys q)) (h q) ∙ sym (or_cond (eqb q n) s (seat_of xs q) (seat_of ys q))
    ∙ ap (λ o. cond (eqb q n) (Some s) o) (sym (appended xs ys q))

-- and another one, where the number has none in a row
pub seated_other : (xs ys ys' : List (ℕ × Seat)) (n : ℕ) (s : Seat) → seat_of xs n ≡ None → ((q : ℕ) → seat_of ys' q ≡ cond (eqb q n) (Some s) (seat_of ys q))
    → (q : ℕ) → seat_of (xs ++ ys') q ≡ cond (eqb q n) (Some s) (seat_of (xs ++ ys) q)
seated_other xs ys ys' n s none h q =
    let put : or_other (seat_of xs q) (cond (eqb q n) (Some s) (seat_of ys q)) ≡ cond (eqb q n) (Some s) (or_other (seat_of xs q) (seat_of ys q)) =
    ⊎_elim (λ (t : eqb q n ≡ true). rw t (ap (λ o. or_other o (Some s)) (ap (λ k. seat_of xs k) (eqb-true q n t) ∙ none))) (λ (f : eqb q n ≡ false). rw f refl) (cases_Bool (eqb q n)) in
    appended xs ys' q ∙ ap (λ o. or_other (seat_of xs q) o) (h q) ∙ put ∙ ap (λ o. cond (eqb q n) (Some s) o) (sym (appended xs ys q))

-- nobody has moved
pub same_other : (xs ys ys' : List (ℕ × Seat)) → ((q : ℕ) → seat_of ys' q ≡ seat_of ys q) → (q : ℕ) → seat_of (xs ++ ys') q ≡ seat_of (xs ++ ys) q
same_other xs ys ys' h q = appended xs ys' q ∙ ap (λ o. or_other (seat_of xs q) o) (h q) ∙ sym (appended xs ys q)

neither : (b : Bool) (o p : Option Seat) → or_other (cond b None o) (cond b None p) ≡ cond b None (or_other o p)
neither true o p = refl
neither false o p = refl

-- a number that sits nowhere
pub left_both : (xs xs' ys ys' : List (ℕ × Seat)) (n : ℕ) → ((q : ℕ) → seat_of xs' q ≡ cond (eqb q n) None (seat_of xs q))
    → ((q : ℕ) → seat_of ys' q ≡ cond (eqb q n) None (seat_of ys q)) → (q : ℕ) → seat_of (xs' ++ ys') q ≡ cond (eqb q n) None (seat_of (xs ++ ys) q)
left_both xs xs' ys ys' n h g q =
    appended xs' ys' q ∙ ap (λ o. or_other o (seat_of ys' q)) (h q) ∙ ap (λ o. or_other (cond (eqb q n) None (seat_of xs q)) o) (g q)
    ∙ neither (eqb q n) (seat_of xs q) (seat_of ys q) ∙ ap (λ o. cond (eqb q n) None o) (sym (appended xs ys q))

-- a member more, in a row
taken_pushed : (rows : List (ℕ × Option Seat)) (n : ℕ) (s : Seat) → taken (rows ++ (n, Some s) ∷ []) ≡ taken rows ++ (n, s) ∷ []
taken_pushed [] n s = refl
taken_pushed ((m, None) ∷ rows) n s = taken_pushed rows n s
taken_pushed ((m, Some t) ∷ rows) n s = ap (λ es. (m, t) ∷ es) (taken_pushed rows n s)

pub pushed : (rows : List (ℕ × Option Seat)) (n : ℕ) (s : Seat) → seat_of (taken rows) n ≡ None
    → (q : ℕ) → seat_of (taken (rows ++ (n, Some s) ∷ [])) q ≡ cond (eqb q n) (Some s) (seat_of (taken rows) q)
pushed rows n s none q =
    let one : (k : ℕ) → seat_of ((n, s) ∷ []) k ≡ cond (eqb k n) (Some s) None = λ k. ap (λ b. cond b (Some s) None) (ties k n) in
    let put = seated_other (taken rows) [] ((n, s) ∷ []) n s none one q in
    let end : seat_of (taken rows ++ []) q ≡ seat_of (taken rows) q = appended (taken rows) [] q ∙ or_nobody (seat_of (taken rows) q) in
    ap (λ es. seat_of es q) (taken_pushed rows n s) ∙ put ∙ ap (λ o. cond (eqb q n) (Some s) o) end

-- ---- a look by halves
module _ (rows : List (ℕ × Option Seat)) (up : Rises 0 rows) (n : ℕ) where
  -- the comparisons with the number rise along the rows, as a binary search asks
  comparisons_rise : IsNonDecreasingBy (λ row. ordering_index (nat_cmp row.0 n)) rows
  comparisons_rise i j d le within =
      let rise : (get_or rows i d).0 ≤ (get_or rows j d).0 = grind (arith, ascends rows 0 up i j d, λ (same : i ≡ j). ap (λ k. (get_or rows k d).0) same) in
      grind (arith, nat_tests)

  -- it ends at the number's row, or there is none
  pub searched : (r : Result ℕ ℕ) → IsSearchInRange r (length rows) → IsBinarySearchResult (λ row. nat_cmp row.0 n) rows r
      → record {
        within : IfSome (result_ok r) (λ i. i < length rows);
        own : IfSome (result_ok r) (λ i. (row : ℕ × Option Seat) → (get_or rows i row).0 ≡ n);
        absent : IfNone (result_ok r) (seat_of (taken rows) n ≡ None);
      }
  searched (Ok i) within equal = record { within = within; own = λ row. ranked _ n _ (sym (equal row)); absent = tt }
  searched (Err i) within parted =
      let parts = parted comparisons_rise in
      let less : (k : ℕ) (e : ℕ × Option Seat) → k < i → (get_or rows k e).0 < n = λ k e below. ranked _ n _ (sym (parts.0 k e (omega arith) below)) in
      let greater : (k : ℕ) (e : ℕ × Option Seat) → i ≤ k → k < length rows → n < (get_or rows k e).0 = λ k e from to. ranked _ n _ (sym (parts.1 k e from to)) in
      record { within = tt; own = tt; absent = no_row rows n (λ k e to same. grind (arith, less k e, greater k e)) }
