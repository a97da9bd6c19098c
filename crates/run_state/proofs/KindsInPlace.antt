-- A number takes its place in an ascending list, and the kinds that readers have.
use Rattle.std.proofs.Common.{◌≡◌, ℕ, zero, suc, ◌+◌, ◌<◌, ◌≤◌, true, false, List, [], ◌∷◌, ◌++◌, length, get_or, take, drop, map, refl, ap, sym, ◌∙◌, arith}
use Rattle.std.specs.Prelude.{nat_eq, nat_le, nat_lt, Option, Some, None, if◌then◌else◌}
use Rattle.std.specs.List.{slice_get, insert}
use Rattle.std.proofs.lemmas.List.{drop_more, take_more, take-append-drop, append_assoc}
use Rattle.std.proofs.lemmas.Bool.Decides.{nat_tests}
use Rattle.std.proofs.lemmas.Grind.{common_steps}
use Rattle.rt_model.specs.Lists.{insert_number}
use Rattle.rt_model.specs.World as world
use Rattle.rt_model.specs.Removal.{kinds_in, kinds_of_scopes}
use Rattle.rt_cells.specs.declared.sources.Source.{Source}
use Rattle.run_records.specs.Records.{source_of}
use Rattle.run_records.specs.declared.rest.Scope.{Scope}
use Rattle.run_state.specs.Mirror.{scopes_of}
use Rattle.run_state.specs.Kinds.{stands_at, is_number}
use Rattle.run_state.proofs.Each.{drop-all}

-- a number goes past a lower one
goes_past : (x n : ℕ) (xs : List ℕ) → x < n → insert_number (x ∷ xs) n ≡ x ∷ insert_number xs n
goes_past x n xs lower =
    let other : nat_eq x n ≡ false = grind (arith, nat_tests) in
    let after : nat_lt n x ≡ false = grind (arith, nat_tests) in
    ap (λ b. if b then x ∷ xs else (if nat_lt n x then n ∷ x ∷ xs else x ∷ insert_number xs n)) other
    ∙ ap (λ b. if b then n ∷ x ∷ xs else x ∷ insert_number xs n) after

-- one more is lower
pub one_lower : (xs : List ℕ) (n i d : ℕ) → i < length xs → get_or xs i d < n
    → insert_number xs n ≡ take i xs ++ insert_number (drop i xs) n → insert_number xs n ≡ take (i + 1) xs ++ insert_number (drop (i + 1) xs) n
one_lower xs n i d within lower so_far =
    so_far
    ∙ ap (λ ys. take i xs ++ insert_number ys n) (drop_more xs i d within)
    ∙ ap (λ ys. take i xs ++ ys) (goes_past (get_or xs i d) n (drop (i + 1) xs) lower)
    ∙ sym (append_assoc (take i xs) (get_or xs i d ∷ []) (insert_number (drop (i + 1) xs) n))
    ∙ ap (λ ys. ys ++ insert_number (drop (i + 1) xs) n) (sym (take_more xs i d within))

-- all are
pub all_lower : (xs : List ℕ) (n i : ℕ) → length xs ≤ i
    → insert_number xs n ≡ take i xs ++ insert_number (drop i xs) n → insert_number xs n ≡ take (length xs) xs ++ insert_number (drop (length xs) xs) n
all_lower xs n i end so_far =
    let front : take i xs ≡ take (length xs) xs = grind (arith, common_steps) in
    let rest : drop i xs ≡ drop (length xs) xs = grind (arith, common_steps) in
    so_far ∙ (λ j. front j ++ insert_number (rest j) n)

-- the same of the list that was seen
pub lower_in : (seen xs : List ℕ) (n i : ℕ) → seen ≡ xs → insert_number seen n ≡ take i seen ++ insert_number (drop i seen) n → insert_number xs n ≡ take i xs ++ insert_number (drop i xs) n
lower_in seen xs n i is lower = ap (λ ys. insert_number ys n) (sym is) ∙ lower ∙ ap (λ ys. take i ys ++ insert_number (drop i ys) n) is

pub here_in : (seen xs : List ℕ) (n i : ℕ) → seen ≡ xs → ((d : ℕ) → i < length seen → nat_le n (get_or seen i d) ≡ true) → (d : ℕ) → i < length xs → nat_le n (get_or xs i d) ≡ true
here_in seen xs n i is here d within = ap (λ ys. nat_le n (get_or ys i d)) (sym is) ∙ here d (rw is within)

first_of : (xs : List ℕ) (i : ℕ) → slice_get xs i ≡ slice_get (drop i xs) 0
first_of [] zero = refl
first_of [] (suc i) = refl
first_of (x ∷ xs) zero = refl
first_of (x ∷ xs) (suc i) = first_of xs i

head_kept : (ys : List ℕ) (n : ℕ) → is_number (slice_get ys 0) n ≡ true → insert_number ys n ≡ ys
head_kept [] n is = absurd (cc is)
head_kept (y ∷ ys) n is = ap (λ b. if b then y ∷ ys else (if nat_lt n y then n ∷ y ∷ ys else y ∷ insert_number ys n)) is

-- a number that stands there already
pub number_kept : (xs : List ℕ) (n i : ℕ) → insert_number xs n ≡ take i xs ++ insert_number (drop i xs) n → stands_at xs i n ≡ true → xs ≡ insert_number xs n
number_kept xs n i lower is =
    sym
    (lower
    ∙ ap (λ ys. take i xs ++ ys) (head_kept (drop i xs) n (ap (λ o. is_number o n) (sym (first_of xs i)) ∙ is))
    ∙ take-append-drop i xs)

head_put : (ys : List ℕ) (n : ℕ) → is_number (slice_get ys 0) n ≡ false → ((y : ℕ) → slice_get ys 0 ≡ Some y → nat_le n y ≡ true) → insert_number ys n ≡ n ∷ ys
head_put [] n other here = refl
head_put (y ∷ ys) n other here =
    let low : nat_le n y ≡ true = here y refl in
    let before : nat_lt n y ≡ true = grind (arith, nat_tests) in
    ap (λ b. if b then y ∷ ys else (if nat_lt n y then n ∷ y ∷ ys else y ∷ insert_number ys n)) other
    ∙ ap (λ b. if b then n ∷ y ∷ ys else y ∷ insert_number ys n) before

found_within : (xs : List ℕ) (i y : ℕ) → slice_get xs i ≡ Some y → i < length xs
found_within [] i y is = absurd (cc is)
found_within (x ∷ xs) zero y is = omega arith
found_within (x ∷ xs) (suc i) y is = let less = found_within xs i y is in omega arith

found_is : (xs : List ℕ) (i y : ℕ) → slice_get xs i ≡ Some y → get_or xs i y ≡ y
found_is [] i y is = refl
found_is (x ∷ xs) zero y is = ap (λ (o : Option ℕ). elim o as (λ _. ℕ) [ None ↦ y | Some z ↦ z ]) is
found_is (x ∷ xs) (suc i) y is = found_is xs i y is

-- a number that doesn't
pub number_put : (xs : List ℕ) (n i : ℕ) → insert_number xs n ≡ take i xs ++ insert_number (drop i xs) n → stands_at xs i n ≡ false
    → ((d : ℕ) → i < length xs → nat_le n (get_or xs i d) ≡ true) → insert xs i n ≡ insert_number xs n
number_put xs n i lower other here =
    sym
    (lower
    ∙ ap (λ ys. take i xs ++ ys)
    (head_put (drop i xs) n (ap (λ o. is_number o n) (sym (first_of xs i)) ∙ other)
    (λ y is. let own : slice_get xs i ≡ Some y = first_of xs i ∙ is in ap (λ m. nat_le n m) (sym (found_is xs i y own)) ∙ here y (found_within xs i y own))))

-- the kinds of several sources, one after another
one_source : (s : ℕ) (x : world.Source) (xs : List world.Source) (kinds : List ℕ) → kinds_in s xs (kinds_in s (x ∷ []) kinds) ≡ kinds_in s (x ∷ xs) kinds
one_source s (world.Cell n) xs kinds = refl
one_source s (world.Error t) xs kinds = refl
one_source s (world.Context k t) xs kinds = refl

pub kinds_step : (s : ℕ) (xs : List Source) (i : ℕ) (d : Source) (old new : List ℕ) → i < length xs → new ≡ kinds_in s (source_of (get_or xs i d) ∷ []) old
    → kinds_in s (map source_of (drop (i + 1) xs)) new ≡ kinds_in s (map source_of (drop i xs)) old
kinds_step s xs i d old new within made =
    ap (kinds_in s (map source_of (drop (i + 1) xs))) made
    ∙ one_source s (source_of (get_or xs i d)) (map source_of (drop (i + 1) xs)) old
    ∙ ap (λ ys. kinds_in s (map source_of ys) old) (sym (drop_more xs i d within))

pub kinds_end : (s : ℕ) (xs : List Source) (i : ℕ) (now all : List ℕ) → length xs ≤ i → kinds_in s (map source_of (drop i xs)) now ≡ all → now ≡ all
kinds_end s xs i now all end is = ap (λ ys. kinds_in s (map source_of ys) now) (sym (drop-all xs i end)) ∙ is

module _ {P C Q V H T E L : Type 0} where
  pub scopes_step : (s : ℕ) (es : List (ℕ × Scope P C Q V H T E L)) (i : ℕ) (e : ℕ × Scope P C Q V H T E L) (reads : List Source) (old new : List ℕ)
      → i < length es → e ≡ get_or es i e → reads ≡ ((e.1).rest).reads → new ≡ kinds_in s (map source_of reads) old
      → kinds_of_scopes s (scopes_of (drop (i + 1) es)) new ≡ kinds_of_scopes s (scopes_of (drop i es)) old
  scopes_step s es i e reads old new within is read made =
      ap (kinds_of_scopes s (scopes_of (drop (i + 1) es))) (made ∙ ap (λ rs. kinds_in s (map source_of rs) old) read)
      ∙ ap (λ (d : ℕ × Scope P C Q V H T E L). kinds_of_scopes s (scopes_of (d ∷ drop (i + 1) es)) old) is
      ∙ ap (λ ys. kinds_of_scopes s (scopes_of ys) old) (sym (drop_more es i e within))

  pub scopes_end : (s : ℕ) (es : List (ℕ × Scope P C Q V H T E L)) (i : ℕ) (now all : List ℕ) → length es ≤ i → kinds_of_scopes s (scopes_of (drop i es)) now ≡ all → now ≡ all
  scopes_end s es i now all end is = ap (λ ys. kinds_of_scopes s (scopes_of ys) now) (sym (drop-all es i end)) ∙ is
