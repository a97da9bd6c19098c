-- Numbers and their tests.
use Rattle.std.proofs.Common.{Bool, arith, eqb, false, nat_eq, nat_lt, refl, true, ℕ, ◌+◌, ◌-◌, ◌<◌, ◌≡◌, ◌≢◌, ◌≤◌}
use Rattle.std.proofs.lemmas.Bool.{eqb-true}
use Rattle.std.proofs.lemmas.Bool.Decides.{nat_tests}
use Rattle.std.specs.Ordering.{is_eq, nat_cmp}
use Rattle.std.specs.Prelude.{suc}
use Rattle.rt_lemmas.proofs.Bools.{clash}

-- equal numbers pass the test
pub eq_true : (a b : ℕ) → a ≡ b → nat_eq a b ≡ true
eq_true a b e = grind (arith, nat_tests)

-- a number is equal to itself
pub eq_same : (n : ℕ) → nat_eq n n ≡ true
eq_same n = grind (arith)

-- a number that tests as less is less
pub lt_true : (a b : ℕ) → nat_lt a b ≡ true → a < b
lt_true a b h = grind (arith, h)

-- a number that is no less tests as no less
pub high_test : (a b : ℕ) → b ≤ a → nat_lt a b ≡ false
high_test a b h = grind (arith, h)

-- a number that tests as no less is no less
pub lt_false : (n m : ℕ) → nat_lt n m ≡ false → m ≤ n
lt_false n m q = grind (arith, q)

-- a greater number is another one
pub eq_above : (t n : ℕ) → t < n → nat_eq n t ≡ false
eq_above t n h = grind (arith, h)

-- numbers that differ differ the other way round, too
pub other_way : (x y : ℕ) → nat_eq x y ≡ false → nat_eq y x ≡ false
other_way x y h = grind (arith, nat_tests)

-- a number is at most itself
pub least : (n : ℕ) → n ≤ n
least n = omega arith

-- numbers that pass the test are equal
pub eq_is : (n t : ℕ) → nat_eq n t ≡ true → n ≡ t
eq_is n t h = eqb-true n t h

-- one item fewer is left behind the next one
pub fewer : (n i : ℕ) → i < n → n - i ≡ suc (n - (i + 1))
fewer n i h = omega arith

-- another number than 0 tests as another one
pub not_zero : (n : ℕ) → n ≢ 0 → nat_eq n 0 ≡ false
not_zero n h = grind (arith, nat_tests)

-- a less number tests as less
pub low_test : (a b : ℕ) → a < b → nat_lt a b ≡ true
low_test a b h = grind (arith, h)

-- numbers tie where they are equal the other way round
pub ties_back : (a b : ℕ) → is_eq (nat_cmp a b) ≡ nat_eq b a
ties_back a b = grind (arith, nat_tests)

-- behind the end no item is left
pub none_left : (n i : ℕ) → n ≤ i → n - i ≡ 0
none_left n i h = omega arith

-- a less number is another one
pub eq_below : (a b : ℕ) → a < b → nat_eq a b ≡ false
eq_below a b h = grind (arith, nat_tests)

-- at the beginning all is left
pub all_left : (n : ℕ) → n - 0 ≡ n
all_left n = omega arith

-- no number is less than itself
pub not_less : (n : ℕ) → nat_lt n n ≡ false
not_less n = high_test n n (omega arith)

-- a greater number is another one, which stands first
pub eq_over : (n t : ℕ) → t < n → nat_eq n t ≡ false
eq_over n t l = grind (arith, l)

-- what is neither less nor equal is greater
pub eq_apart : (a b : ℕ) → nat_lt a b ≡ false → nat_eq a b ≡ false → b < a
eq_apart a b h g = grind (arith, h, g)

-- a number at least one above is another one
pub eq_past : (t n : ℕ) → t + 1 ≤ n → nat_eq n t ≡ false
eq_past t n low = grind (arith, low)

-- with nothing before it a number is the same
pub zero_more : (n : ℕ) → 0 + n ≡ n
zero_more n = omega arith

-- equal numbers are at most each other
pub at_most : {m n : ℕ} → n ≡ m → m ≤ n
at_most h = omega arith

-- a number at least one below is another one
pub eq_before : (n t : ℕ) → n + 1 ≤ t → nat_eq n t ≡ false
eq_before n t l = grind (arith, l)

tested_apart : (a b : ℕ) (t : Bool) → nat_eq a b ≡ t → (a ≡ b → ⊥) → t ≡ false
tested_apart a b true q h = absurd (h (eqb-true a b q))
tested_apart a b false q h = refl

-- numbers that are not equal fail the test
pub eq_false : (a b : ℕ) → (a ≡ b → ⊥) → nat_eq a b ≡ false
eq_false a b h = tested_apart a b (nat_eq a b) refl h

-- numbers that fail the test are not equal
pub apart : (i j : ℕ) → nat_eq i j ≡ false → i ≡ j → ⊥
apart i j h same = clash (eq_true i j same) h

-- numbers tie where they are equal
pub ties : (a b : ℕ) → is_eq (nat_cmp a b) ≡ nat_eq a b
ties a b = grind (arith, nat_tests)

-- nothing tests as 0
pub is_zero : (n : ℕ) → n ≡ 0 → nat_eq n 0 ≡ true
is_zero n e = grind (arith, nat_tests)

-- other numbers fail the test
pub eq_other : (a b : ℕ) → a ≢ b → nat_eq a b ≡ false
eq_other a b ne = grind (arith, nat_tests)

-- a test of numbers may be asked either way
pub eqb_turned : (m n : ℕ) → eqb m n ≡ eqb n m
eqb_turned m n = grind (arith, nat_tests)

-- a test of numbers may be asked either way
pub eq_turned : (a b : ℕ) → nat_eq a b ≡ nat_eq b a
eq_turned a b = grind (arith, nat_tests)
