-- Rows that stay: what a look, a removal and a tidying do to those that have a value.
use Rattle.std.proofs.Common.{◌≡◌, ℕ, zero, suc, ◌+◌, ◌-◌, ◌<◌, ◌≤◌, List, [], ◌∷◌, ◌++◌, length, get_or, Bor, drop, cond, not, nat_eq, Bool, true, false, Option, Some, None, refl, ap, subst, sym, ◌∙◌, arith}
use Rattle.std.specs.Prelude.{slice_set, is_some, IfSome, OnErr, Result, Ok, Err}
use Rattle.std.specs.List.{filter}
use Rattle.std.specs.Slice.{IsGetResult}
use Rattle.std.proofs.lemmas.List.{drop_more}
use Rattle.rt_lemmas.proofs.Bools.{and_false as and-false, true_and as and-true}
use Rattle.rt_lemmas.proofs.Numbers.{eq_true as eq-true, eq_above as eq-past, eq_below as eq-before}
use Rattle.rt_model.specs.Lists.{at, without}
use Rattle.rt_model.proofs.Maps.{by_test, pick_false, pick_true}
use Rattle.run_table.specs.Found.{Ascends}
use Rattle.run_table.proofs.Rows.{drop-all}
use Rattle.run_table.specs.Stands.{and_live, live, Rises, has_value, IsLast}

-- what holds anyway holds of a refusal
pub refused : {X E P : Type 0} (r : Result X E) → P → OnErr r P
refused (Ok x) p = tt
refused (Err e) p = p

module _ {A : Type 0} where
  -- numbers that rise from one on rise from any below it on
  pub rises-from : (rows : List (ℕ × Option A)) (low high : ℕ) → low ≤ high → Rises high rows → Rises low rows
  rises-from [] low high le up = tt
  rises-from (e ∷ rows) low high le up = (omega (arith, le, up.0), up.1)

  -- each is at least the one that they rise from
  rises-at : (rows : List (ℕ × Option A)) (low i : ℕ) (d : ℕ × Option A) → i < length rows → Rises low rows → low ≤ (get_or rows i d).0
  rises-at [] low i d within up = absurd (omega (arith, within))
  rises-at (e ∷ rows) low zero d within up = up.0
  rises-at (e ∷ rows) low (suc i) d within up =
      let rest : e.0 + 1 ≤ (get_or rows i d).0 = rises-at rows (e.0 + 1) i d (omega (arith, within)) up.1 in
      omega (arith, rest, up.0)

  -- and below those behind it
  pub rises-ascends : (rows : List (ℕ × Option A)) (low : ℕ) → Rises low rows → Ascends rows
  rises-ascends [] low up i j d lt to = absurd (omega (arith, to))
  rises-ascends (e ∷ rows) low up zero zero d lt to = absurd (omega (arith, lt))
  rises-ascends (e ∷ rows) low up (suc i) zero d lt to = absurd (omega (arith, lt))
  rises-ascends (e ∷ rows) low up zero (suc j) d lt to =
      let rest : e.0 + 1 ≤ (get_or rows j d).0 = rises-at rows (e.0 + 1) j d (omega (arith, to)) up.1 in
      omega (arith, rest)
  rises-ascends (e ∷ rows) low up (suc i) (suc j) d lt to = rises-ascends rows (e.0 + 1) up.1 i j d (omega (arith, lt)) (omega (arith, to))

  -- a row's value is written
  pub rises-set : (rows : List (ℕ × Option A)) (low i n : ℕ) (v : Option A) → i < length rows → ((d : ℕ × Option A) → (get_or rows i d).0 ≡ n)
      → Rises low rows → Rises low (slice_set rows i (n, v))
  rises-set [] low i n v within own up = absurd (omega (arith, within))
  rises-set (e ∷ rows) low zero n v within own up = subst (λ (m : ℕ). (low ≤ m) × Rises (m + 1) rows) (own e) up
  rises-set (e ∷ rows) low (suc i) n v within own up = (up.0, rises-set rows (e.0 + 1) i n v (omega (arith, within)) own up.1)

  -- some are taken out
  rises-picked : (b : Bool) (e : ℕ × Option A) (rows : List (ℕ × Option A)) (low : ℕ) → low ≤ e.0 → Rises (e.0 + 1) rows → Rises low (cond b (e ∷ rows) rows)
  rises-picked true e rows low le up = (le, up)
  rises-picked false e rows low le up = rises-from rows low (e.0 + 1) (omega (arith, le)) up

  pub rises-filter : (test : ℕ × Option A → Bool) (rows : List (ℕ × Option A)) (low : ℕ) → Rises low rows → Rises low (filter test rows)
  rises-filter test [] low up = tt
  rises-filter test (e ∷ rows) low up = rises-picked (test e) e (filter test rows) low up.0 (rises-filter test rows (e.0 + 1) up.1)

  -- a row of a greater number comes
  rises-more : (rows : List (ℕ × Option A)) (low n : ℕ) (v : Option A) → low ≤ n → ((k : ℕ) (d : ℕ × Option A) → k < length rows → (get_or rows k d).0 < n)
      → Rises low rows → Rises low (rows ++ (n, v) ∷ [])
  rises-more [] low n v le less up = (le, tt)
  rises-more (e ∷ rows) low n v le less up =
      let first : e.0 < n = less 0 e (omega arith) in
      (up.0, rises-more rows (e.0 + 1) n v (omega (arith, first)) (λ k d to. less (suc k) d (omega (arith, to))) up.1)

  -- it's enough that it is above the last one's
  pub rises-pushed : (rows : List (ℕ × Option A)) (n : ℕ) (v : Option A) → ((k : ℕ) (d : ℕ × Option A) → k + 1 ≡ length rows → (get_or rows k d).0 < n)
      → Rises 0 rows → Rises 0 (rows ++ (n, v) ∷ [])
  rises-pushed rows n v last up =
      rises-more rows 0 n v (omega arith)
      (
      λ k d to.
      let ascending = rises-ascends rows 0 up in
      grind (arith, ascending k (length rows - 1) d, last k d, last (length rows - 1) d, to)
      )
      up

  -- the rows that a call for the last one sees
  pub last-below : (rows : List (ℕ × Option A)) (n : ℕ) (last : Bor (ℕ × Option A)) → IsGetResult rows 0 (length rows - 1) (Some last) → last.now.0 < n
      → (k : ℕ) (d : ℕ × Option A) → k + 1 ≡ length rows → (get_or rows k d).0 < n
  last-below rows n last item less k d ends =
      let here : length rows - 1 ≡ k = omega (arith, ends) in
      let read : (get_or rows k d).0 ≡ last.now.0 = ap (λ (p : ℕ × Option A). p.0) (ap (λ j. get_or rows j d) (sym here) ∙ sym (item.3.1 d)) in
      omega (arith, read, less)

  pub none-last : (rows : List (ℕ × Option A)) (n : ℕ) → IsGetResult rows 0 (length rows - 1) None
      → (k : ℕ) (d : ℕ × Option A) → k + 1 ≡ length rows → (get_or rows k d).0 < n
  none-last rows n item k d ends = absurd (omega (arith, item.3, ends))

  -- below all of them none has a value
  without-below : (rows : List (ℕ × Option A)) (n low : ℕ) → n < low → Rises low rows → without (live rows) n ≡ live rows
  without-below [] n low below up = refl
  without-below ((m, None) ∷ rows) n low below up = without-below rows n (m + 1) (omega (arith, below, up.0)) up.1
  without-below ((m, Some a) ∷ rows) n low below up =
      pick_false (without (live rows) n) ((m, a) ∷ without (live rows) n) (eq-past n m (omega (arith, below, up.0)))
      ∙ ap (λ es. (m, a) ∷ es) (without-below rows n (m + 1) (omega (arith, below, up.0)) up.1)

  none-below : (rows : List (ℕ × Option A)) (n low : ℕ) → n < low → Rises low rows → at (live rows) n ≡ None
  none-below [] n low below up = refl
  none-below ((m, None) ∷ rows) n low below up = none-below rows n (m + 1) (omega (arith, below, up.0)) up.1
  none-below ((m, Some a) ∷ rows) n low below up =
      pick_false (Some a) (at (live rows) n) (eq-past n m (omega (arith, below, up.0)))
      ∙ none-below rows n (m + 1) (omega (arith, below, up.0)) up.1

  -- a row that is left empty is its value taken out
  pub live-emptied : (rows : List (ℕ × Option A)) (low i n : ℕ) → i < length rows → ((d : ℕ × Option A) → (get_or rows i d).0 ≡ n)
      → Rises low rows → live (slice_set rows i (n, None)) ≡ without (live rows) n
  live-emptied [] low i n within own up = absurd (omega (arith, within))
  live-emptied ((m, None) ∷ rows) low zero n within own up =
      let here : m ≡ n = own (m, None) in
      sym (without-below rows n (m + 1) (omega (arith, here)) up.1)
  live-emptied ((m, Some a) ∷ rows) low zero n within own up =
      let here : m ≡ n = own (m, None) in
      sym (pick_true (without (live rows) n) ((m, a) ∷ without (live rows) n) (eq-true m n here) ∙ without-below rows n (m + 1) (omega (arith, here)) up.1)
  live-emptied ((m, None) ∷ rows) low (suc i) n within own up = live-emptied rows (m + 1) i n (omega (arith, within)) own up.1
  live-emptied ((m, Some a) ∷ rows) low (suc i) n within own up =
      let behind : m + 1 ≤ n = subst (λ (k : ℕ). m + 1 ≤ k) (own (m, None)) (rises-at rows (m + 1) i (m, None) (omega (arith, within)) up.1) in
      ap (λ es. (m, a) ∷ es) (live-emptied rows (m + 1) i n (omega (arith, within)) own up.1)
      ∙ sym (pick_false (without (live rows) n) ((m, a) ∷ without (live rows) n) (eq-before m n (omega (arith, behind))))

  -- where no row has the number, no value goes
  pub live-absent : (rows : List (ℕ × Option A)) (n : ℕ) → at rows n ≡ None → live rows ≡ without (live rows) n
  live-absent [] n absent = refl
  live-absent ((m, None) ∷ rows) n absent =
      by_test (nat_eq m n)
      (λ q. absurd (cc (sym (pick_true (Some None) (at rows n) q) ∙ absent)))
      (λ q. live-absent rows n (sym (pick_false (Some None) (at rows n) q) ∙ absent))
  live-absent ((m, Some a) ∷ rows) n absent =
      by_test (nat_eq m n)
      (λ q. absurd (cc (sym (pick_true (Some (Some a)) (at rows n) q) ∙ absent)))
      (λ q. ap (λ es. (m, a) ∷ es) (live-absent rows n (sym (pick_false (Some (Some a)) (at rows n) q) ∙ absent))
      ∙ sym (pick_false (without (live rows) n) ((m, a) ∷ without (live rows) n) q))

  -- all rows of a number are taken out
  abbrev others : ℕ → List (ℕ × Option A) → List (ℕ × Option A)
  others n rows = filter (λ row. not (nat_eq row.0 n)) rows

  pub live-others : (rows : List (ℕ × Option A)) (n : ℕ) → live (filter (λ row. not (nat_eq row.0 n)) rows) ≡ without (live rows) n
  live-others [] n = refl
  live-others ((m, None) ∷ rows) n =
      by_test (nat_eq m n)
      (λ q. ap (λ b. live (cond (not b) ((m, None) ∷ others n rows) (others n rows))) q ∙ live-others rows n)
      (λ q. ap (λ b. live (cond (not b) ((m, None) ∷ others n rows) (others n rows))) q ∙ live-others rows n)
  live-others ((m, Some a) ∷ rows) n =
      by_test (nat_eq m n)
      (λ q. ap (λ b. live (cond (not b) ((m, Some a) ∷ others n rows) (others n rows))) q
      ∙ live-others rows n
      ∙ sym (pick_true (without (live rows) n) ((m, a) ∷ without (live rows) n) q))
      (λ q. ap (λ b. live (cond (not b) ((m, Some a) ∷ others n rows) (others n rows))) q
      ∙ ap (λ es. (m, a) ∷ es) (live-others rows n)
      ∙ sym (pick_false (without (live rows) n) ((m, a) ∷ without (live rows) n) q))

  -- without the empty rows the values are the same
  pub live-some : (rows : List (ℕ × Option A)) → live (filter (λ row. is_some row.1) rows) ≡ live rows
  live-some [] = refl
  live-some ((m, None) ∷ rows) = live-some rows
  live-some ((m, Some a) ∷ rows) = ap (λ es. (m, a) ∷ es) (live-some rows)

  -- one more value
  pub live-pushed : (rows : List (ℕ × Option A)) (n : ℕ) (a : A) → live (rows ++ (n, Some a) ∷ []) ≡ live rows ++ (n, a) ∷ []
  live-pushed [] n a = refl
  live-pushed ((m, None) ∷ rows) n a = live-pushed rows n a
  live-pushed ((m, Some b) ∷ rows) n a = ap (λ es. (m, b) ∷ es) (live-pushed rows n a)

  -- the row of a number has its value
  pub live-at : (rows : List (ℕ × Option A)) (low i n : ℕ) → i < length rows → ((d : ℕ × Option A) → (get_or rows i d).0 ≡ n)
      → Rises low rows → (d : ℕ × Option A) → (get_or rows i d).1 ≡ at (live rows) n
  live-at [] low i n within own up d = absurd (omega (arith, within))
  live-at ((m, None) ∷ rows) low zero n within own up d =
      let here : m ≡ n = own d in
      sym (none-below rows n (m + 1) (omega (arith, here)) up.1)
  live-at ((m, Some a) ∷ rows) low zero n within own up d =
      let here : m ≡ n = own d in
      sym (pick_true (Some a) (at (live rows) n) (eq-true m n here))
  live-at ((m, None) ∷ rows) low (suc i) n within own up d = live-at rows (m + 1) i n (omega (arith, within)) own up.1 d
  live-at ((m, Some a) ∷ rows) low (suc i) n within own up d =
      let behind : m + 1 ≤ n = subst (λ (k : ℕ). m + 1 ≤ k) (own d) (rises-at rows (m + 1) i d (omega (arith, within)) up.1) in
      live-at rows (m + 1) i n (omega (arith, within)) own up.1 d
      ∙ sym (pick_false (Some a) (at (live rows) n) (eq-before m n (omega (arith, behind))))

  -- where no row has the number there is none
  pub live-none : (rows : List (ℕ × Option A)) (n : ℕ) → at rows n ≡ None → at (live rows) n ≡ None
  live-none [] n absent = refl
  live-none ((m, None) ∷ rows) n absent =
      by_test (nat_eq m n)
      (λ q. absurd (cc (sym (pick_true (Some None) (at rows n) q) ∙ absent)))
      (λ q. live-none rows n (sym (pick_false (Some None) (at rows n) q) ∙ absent))
  live-none ((m, Some a) ∷ rows) n absent =
      by_test (nat_eq m n)
      (λ q. absurd (cc (sym (pick_true (Some (Some a)) (at rows n) q) ∙ absent)))
      (λ q. pick_false (Some a) (at (live rows) n) q ∙ live-none rows n (sym (pick_false (Some (Some a)) (at rows n) q) ∙ absent))

  -- a look goes past a row that has no value under the number,
  passed : (row : ℕ × Option A) (rows : List (ℕ × Option A)) (n : ℕ) → has_value row n ≡ false → at (live (row ∷ rows)) n ≡ at (live rows) n
  passed (m, None) rows n lacks = refl
  passed (m, Some a) rows n lacks = pick_false (Some a) (at (live rows) n) (and-true (nat_eq m n) ∙ lacks)

  pub look-past : (rows : List (ℕ × Option A)) (i n : ℕ) (d : ℕ × Option A) → i < length rows → has_value (get_or rows i d) n ≡ false
      → at (live rows) n ≡ at (live (drop i rows)) n → at (live rows) n ≡ at (live (drop (i + 1) rows)) n
  look-past rows i n d within lacks so = so ∙ ap (λ rest. at (live rest) n) (drop_more rows i d within) ∙ passed (get_or rows i d) (drop (i + 1) rows) n lacks

  -- and ends at one that has
  met : (row : ℕ × Option A) (rows : List (ℕ × Option A)) (n : ℕ) → has_value row n ≡ true → row.1 ≡ at (live (row ∷ rows)) n
  met (m, None) rows n has = absurd (cc (sym has ∙ and-false (nat_eq m n)))
  met (m, Some a) rows n has = sym (pick_true (Some a) (at (live rows) n) (and-true (nat_eq m n) ∙ has))

  pub look-here : (rows : List (ℕ × Option A)) (i n : ℕ) (d : ℕ × Option A) → i < length rows → has_value (get_or rows i d) n ≡ true
      → at (live rows) n ≡ at (live (drop i rows)) n → (get_or rows i d).1 ≡ at (live rows) n
  look-here rows i n d within has so =
      met (get_or rows i d) (drop (i + 1) rows) n has ∙ ap (λ rest. at (live rest) n) (sym (drop_more rows i d within)) ∙ sym so

  -- or behind all rows
  pub look-end : (rows : List (ℕ × Option A)) (i n : ℕ) → length rows ≤ i → at (live rows) n ≡ at (live (drop i rows)) n → at (live rows) n ≡ None
  look-end rows i n end so =
      so ∙ ap (λ rest. at (live rest) n) (drop-all rows i end)

  -- a value in the last row is the last value
  pub live-last : (rows : List (ℕ × Option A)) (d : ℕ × Option A) (a : A) → 0 < length rows → (get_or rows (length rows - 1) d).1 ≡ Some a → IsLast (live rows) a
  live-last [] d a some is = absurd (omega (arith, some))
  live-last ((m, v) ∷ []) d a some is =
      let first : length {A = ℕ × Option A} ((m, v) ∷ []) - 1 ≡ 0 = omega arith in
      let own : v ≡ Some a = ap (λ k. (get_or ((m, v) ∷ []) k d).1) (sym first) ∙ is in
      record { front = []; number = m; ends = ap (λ (w : Option A). and_live m w []) own }
  live-last ((m, None) ∷ e ∷ rows) d a some is =
      let back : length {A = ℕ × Option A} ((m, None) ∷ e ∷ rows) - 1 ≡ suc (length (e ∷ rows) - 1) = omega arith in
      live-last (e ∷ rows) d a (omega arith) (ap (λ k. (get_or ((m, None) ∷ e ∷ rows) k d).1) (sym back) ∙ is)
  live-last ((m, Some b) ∷ e ∷ rows) d a some is =
      let back : length {A = ℕ × Option A} ((m, Some b) ∷ e ∷ rows) - 1 ≡ suc (length (e ∷ rows) - 1) = omega arith in
      let rest = live-last (e ∷ rows) d a (omega arith) (ap (λ k. (get_or ((m, Some b) ∷ e ∷ rows) k d).1) (sym back) ∙ is) in
      record { front = (m, b) ∷ rest.front; number = rest.number; ends = ap (λ es. (m, b) ∷ es) rest.ends }

  pub last-if : (rows : List (ℕ × Option A)) (d : ℕ × Option A) (value : Option A) → 0 < length rows → (get_or rows (length rows - 1) d).1 ≡ value
      → IfSome value (λ a. IsLast (live rows) a)
  last-if rows d None some is = tt
  last-if rows d (Some a) some is = live-last rows d a some is
