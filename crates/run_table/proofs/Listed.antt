-- The index of the first row of each number, listed.
use Rattle.std.proofs.Common.{◌≡◌, ℕ, zero, suc, ◌+◌, ◌-◌, ◌<◌, ◌≤◌, Bool, cond, true, false, nat_eq, List, [], ◌∷◌, ◌++◌, length, get_or, take, Option, Some, None, IfSome, IfNone, refl, ap, subst, sym, ◌∙◌, arith}
use Rattle.std.specs.Prelude.{slice_set, is_some, option_map, if◌then◌else◌}
use Rattle.std.specs.Ordering.{nat_cmp}
use Rattle.std.specs.Cmp.{unsigned_ties}
use Rattle.std.specs.BTreeMap.{BTreeMap, get, is_at}
use Rattle.std.proofs.lemmas.Bool.{eqb-true}
use Rattle.std.proofs.lemmas.List.{take_more, get_or_default, length-append}
use Rattle.std.proofs.lemmas.Grind.{common_steps}
use Rattle.rt_model.specs.Lists.{at, put, first_of}
use Rattle.rt_model.proofs.Maps.{by_test, pick_true, pick_false}
use Rattle.run_table.specs.Found.{IsFirst, first_in, ListsFirsts}
use Rattle.run_table.proofs.Rows.{first-start}

-- the map's own test is equality
tests : (k q : ℕ) → is_at (nat_cmp k) q ≡ nat_eq k q
tests k q = sym (unsigned_ties k q)

-- a number that is listed keeps its index
pub kept-listed : (m : BTreeMap ℕ ℕ) (n k q : ℕ) → is_some (get nat_cmp m n) ≡ true
    → get nat_cmp m q ≡ first_of (get nat_cmp m q) (if nat_eq n q then Some k else None)
kept-listed m n k q there = own (nat_eq n q) (get nat_cmp m q) (λ same. ap (λ p. is_some (get nat_cmp m p)) (sym (eqb-true n q same)) ∙ there)
  where
    own : (b : Bool) (o : Option ℕ) → (b ≡ true → is_some o ≡ true) → o ≡ first_of o (if b then Some k else None)
    own b (Some i) some = refl
    own false None some = refl
    own true None some = absurd (cc (some refl))

-- one that isn't gets this one
pub more-listed : (m l : BTreeMap ℕ ℕ) (n k : ℕ) → is_some (get nat_cmp m n) ≡ false → ((q : ℕ) → get nat_cmp l q ≡ cond (is_at (nat_cmp n) q) (Some k) (get nat_cmp m q))
    → (q : ℕ) → get nat_cmp l q ≡ first_of (get nat_cmp m q) (if nat_eq n q then Some k else None)
more-listed m l n k new inserted q =
    inserted q ∙ (λ i. cond (tests n q i) (Some k) (get nat_cmp m q))
    ∙ own (nat_eq n q) (get nat_cmp m q) (λ same. ap (λ p. is_some (get nat_cmp m p)) (sym (eqb-true n q same)) ∙ new)
  where
    own : (b : Bool) (o : Option ℕ) → (b ≡ true → is_some o ≡ false) → cond b (Some k) o ≡ first_of o (if b then Some k else None)
    own true None none = refl
    own true (Some i) none = absurd (cc (none refl))
    own false None none = refl
    own false (Some i) none = refl

-- an index before or behind one row more in front
further : (b c : Bool) (o : Option ℕ) (k : ℕ)
    → (if b then Some 0 else option_map (λ i. suc i) (first_of o (if c then Some k else None))) ≡ first_of (if b then Some 0 else option_map (λ i. suc i) o) (if c then Some (suc k) else None)
further true c o k = refl
further false c (Some i) k = refl
further false true None k = refl
further false false None k = refl

module _ {A : Type 0} where
  -- the row at the index, or none where there is no index
  record Found (rows : List (ℕ × A)) (n : ℕ) (o : Option ℕ) : Type 0 where
    within : IfSome o (λ i. i < length rows)
    first : IfSome o (λ i. IsFirst rows n i)
    own : IfSome o (λ i. (row : ℕ × A) → (get_or rows i row).0 ≡ n)
    absent : IfNone o (at rows n ≡ None)

  -- a row of another number in front
  past : (row : ℕ × A) (rows : List (ℕ × A)) (n i : ℕ) → nat_eq row.0 n ≡ false → IsFirst rows n i → IsFirst (row ∷ rows) n (suc i)
  past row rows n i other so =
      record {
        found = pick_false (Some row.1) (at rows n) other ∙ so.found;
        placed = λ a. pick_false ((n, a) ∷ rows) (row ∷ put rows n a) other ∙ ap (λ rest. row ∷ rest) (so.placed a);
      }

  behind : (row : ℕ × A) (rows : List (ℕ × A)) (n : ℕ) (o : Option ℕ) → nat_eq row.0 n ≡ false → Found rows n o → Found (row ∷ rows) n (option_map (λ i. suc i) o)
  behind row rows n None other so = record { within = tt; first = tt; own = tt; absent = pick_false (Some row.1) (at rows n) other ∙ so.absent }
  behind row rows n (Some i) other so =
      let low = so.within in
      record { within = omega (arith, low); first = past row rows n i other so.first; own = so.own; absent = tt }

  first-row : (rows : List (ℕ × A)) (n : ℕ) → Found rows n (first_in rows n)
  first-row [] n = record { within = tt; first = tt; own = tt; absent = refl }
  first-row (row ∷ rows) n =
      by_test (nat_eq row.0 n)
      (λ own.
      subst (Found (row ∷ rows) n) (sym (pick_true (Some 0) (option_map (λ i. suc i) (first_in rows n)) own))
      (record { within = omega arith; first = first-start (row ∷ rows) n; own = λ d. eqb-true row.0 n own; absent = tt }))
      (λ other.
      subst (Found (row ∷ rows) n) (sym (pick_false (Some 0) (option_map (λ i. suc i) (first_in rows n)) other))
      (behind row rows n (first_in rows n) other (first-row rows n)))

  -- what is listed for a number is where it stands first
  pub listed-row : (rows : List (ℕ × A)) (n : ℕ) (o : Option ℕ) → o ≡ first_in rows n
      → record {
        within : IfSome o (λ i. i < length rows);
        first : IfSome o (λ i. IsFirst rows n i);
        own : IfSome o (λ i. (row : ℕ × A) → (get_or rows i row).0 ≡ n);
        absent : IfNone o (at rows n ≡ None);
      }
  listed-row rows n o is =
      let so : Found rows n o = subst (Found rows n) (sym is) (first-row rows n) in
      record { within = so.within; first = so.first; own = so.own; absent = so.absent }

  -- one row more has the last index, where its number had none
  first-pushed : (rows : List (ℕ × A)) (row : ℕ × A) (q : ℕ) → first_in (rows ++ row ∷ []) q ≡ first_of (first_in rows q) (if nat_eq row.0 q then Some (length rows) else None)
  first-pushed [] row q = refl
  first-pushed (r ∷ rows) row q =
      ap (λ o. if nat_eq r.0 q then Some 0 else option_map (λ i. suc i) o) (first-pushed rows row q) ∙ further (nat_eq r.0 q) (nat_eq row.0 q) (first_in rows q) (length rows)

  -- so it is listed
  pub listed-last : (rows before : List (ℕ × A)) (row : ℕ × A) (k : ℕ) (m l : BTreeMap ℕ ℕ) → rows ≡ before ++ row ∷ [] → k ≡ length before → ListsFirsts m before
      → ((q : ℕ) → get nat_cmp l q ≡ first_of (get nat_cmp m q) (if nat_eq row.0 q then Some k else None)) → ListsFirsts l rows
  listed-last rows before row k m l grown last kept more q =
      more q
      ∙ ap (λ o. first_of o (if nat_eq row.0 q then Some k else None)) (kept q)
      ∙ ap (λ j. first_of (first_in before q) (if nat_eq row.0 q then Some j else None)) last
      ∙ sym (first-pushed before row q)
      ∙ ap (λ rs. first_in rs q) (sym grown)

  pub pushed-length : (rows before : List (ℕ × A)) (row : ℕ × A) (k : ℕ) → rows ≡ before ++ row ∷ [] → k ≡ length rows - 1 → k ≡ length before
  pushed-length rows before row k grown is = omega (arith, is, ap length grown, length-append before (row ∷ []))

  -- row by row
  taken-length : (rows : List (ℕ × A)) (i : ℕ) → i < length rows → i ≡ length (take i rows)
  taken-length rows i within = grind (arith, common_steps)

  pub listed-more : (rows : List (ℕ × A)) (i : ℕ) (row : ℕ × A) (m l : BTreeMap ℕ ℕ) → i < length rows → row ≡ get_or rows i row → ListsFirsts m (take i rows)
      → ((q : ℕ) → get nat_cmp l q ≡ first_of (get nat_cmp m q) (if nat_eq row.0 q then Some i else None)) → ListsFirsts l (take (i + 1) rows)
  listed-more rows i row m l within is kept more =
      listed-last (take (i + 1) rows) (take i rows) row i m l (take_more rows i row within ∙ ap (λ r. take i rows ++ r ∷ []) (sym is)) (taken-length rows i within) kept more

  -- of no row
  pub none-listed : (rows : List (ℕ × A)) (m : BTreeMap ℕ ℕ) → m.entries ≡ [] → ListsFirsts m (take 0 rows)
  none-listed rows m empty q = rw empty refl

  -- of all rows
  pub all-listed : (rows : List (ℕ × A)) (i : ℕ) (m : BTreeMap ℕ ℕ) → length rows ≤ i → ListsFirsts m (take i rows) → ListsFirsts m rows
  all-listed rows i m end kept =
      let whole : take i rows ≡ rows = grind (arith, common_steps) in
      subst (λ rs. ListsFirsts m rs) whole kept

  -- a write of a row's value moves no number
  pub first-set : (rows : List (ℕ × A)) (i n : ℕ) (a : A) (q : ℕ) → i < length rows → ((d : ℕ × A) → (get_or rows i d).0 ≡ n) → first_in (slice_set rows i (n, a)) q ≡ first_in rows q
  first-set [] i n a q within own = absurd (omega (arith, within))
  first-set (row ∷ rows) zero n a q within own = ap (λ m. if nat_eq m q then Some 0 else option_map (λ i. suc i) (first_in rows q)) (sym (own row))
  first-set (row ∷ rows) (suc i) n a q within own = ap (λ o. if nat_eq row.0 q then Some 0 else option_map (λ j. suc j) o) (first-set rows i n a q (omega (arith, within)) own)

  pub listed-set : (rows : List (ℕ × A)) (i n : ℕ) (a : A) (m : BTreeMap ℕ ℕ) → i < length rows → ((d : ℕ × A) → (get_or rows i d).0 ≡ n) → ListsFirsts m rows
      → ListsFirsts m (slice_set rows i (n, a))
  listed-set rows i n a m within own kept q = kept q ∙ sym (first-set rows i n a q within own)

  -- or over the value in it
  pub listed-value : (rows : List (ℕ × A)) (i : ℕ) (row : ℕ × A) (a : A) (m : BTreeMap ℕ ℕ) → i < length rows → row ≡ get_or rows i row → ListsFirsts m rows
      → ListsFirsts m (slice_set rows i (row.0, a))
  listed-value rows i row a m within is kept =
      listed-set rows i row.0 a m within (λ d. ap (λ (p : ℕ × A). p.0) (get_or_default rows i d row within ∙ sym is)) kept
