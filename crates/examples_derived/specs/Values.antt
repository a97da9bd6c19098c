-- Values: what they are in words, and a test of them that decides.
use Rattle.std.proofs.Common.{inl, inr, refl}
use Rattle.std.specs.Prelude.{ℕ, ◌≡◌, ◌⊎◌, codes, decimal, nat_eq, Bool, true, List, Option, Some, None}
use Rattle.rt_author.specs.Lists.{same_numbers}
use Rattle.rt_author.specs.Laws.{Tests}
use Rattle.rt_author.specs.Words.{coded_tests, either_tests, plain_tests, same_either}
use Rattle.examples_derived.specs.declared.parts.Value.{Value}
use Rattle.examples_derived.specs.declared.parts.Value.TheVariants.{Number, Words}

-- no words
abbrev pub empty : Value
empty = Words (codes "")

-- a value that was read of a cell
abbrev pub or_empty : Option Value → Value
or_empty None = empty
or_empty (Some value) = value

-- whether a value is 0, or no number
abbrev pub is_zero : Value → Bool
is_zero (Number number) = nat_eq number 0
is_zero (Words said) = true

-- a value in words
abbrev pub words : Value → List ℕ
words (Number number) = decimal number
words (Words said) = said

-- the number of a cell, where a value keeps that
abbrev pub cell_in : Value → Option ℕ
cell_in (Number cell) = Some cell
cell_in (Words said) = None

-- values as one of two types, and back
abbrev pub code : Value → ℕ ⊎ List ℕ
code (Number number) = inl number
code (Words said) = inr said

abbrev value : ℕ ⊎ List ℕ → Value
value (inl number) = Number number
value (inr said) = Words said

back : (v : Value) → value (code v) ≡ v
back (Number number) = refl
back (Words said) = refl

-- the test of these types
abbrev pub same : Value → Value → Bool
same a b = same_either nat_eq same_numbers (code a) (code b)

pub decides : Tests Value same
decides =
    coded_tests code value (same_either nat_eq same_numbers) back (either_tests nat_eq same_numbers plain_tests.numbers plain_tests.texts)
