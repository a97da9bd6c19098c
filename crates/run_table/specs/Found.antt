-- Where a number stands first.
use Rattle.std.specs.Prelude.{ℕ, suc, Bool, List, IsTrue, [], ◌∷◌, ◌++◌, ◌<◌, length, get_or, take, drop, ◌≡◌, nat_eq, Option, Some, None, option_map, if◌then◌else◌}
use Rattle.std.specs.Ordering.{nat_cmp}
use Rattle.std.specs.BTreeMap.{BTreeMap, get}
use Rattle.rt_model.specs.Lists.{at, put}

-- no row before the index has the number: a look for it, or a put, comes to the index unchanged
pub record IsFirst {A : Type 0} (rows : List (ℕ × A)) (number index : ℕ) : Type 0 where
  pub found : at rows number ≡ at (drop index rows) number
  pub placed : (value : A) → put rows number value ≡ take index rows ++ put (drop index rows) number value

-- a row of a number is taken out
pub record IsTaken {A : Type 0} (old new : List (ℕ × A)) (number : ℕ) (value : A) : Type 0 where
  pub front : List (ℕ × A)
  pub back : List (ℕ × A)
  pub was : old ≡ front ++ (number, value) ∷ back
  pub is : new ≡ front ++ back

-- each row's number is below those of the rows after it
abbrev pub Ascends : {A : Type 0} → List (ℕ × A) → Type 0
Ascends {A} rows = (i j : ℕ) (row : ℕ × A) → i < j → j < length rows → (get_or rows i row).0 < (get_or rows j row).0

-- the same where a mark says so
abbrev pub AscendsIf : {A : Type 0} → Bool → List (ℕ × A) → Type 0
AscendsIf marked rows = IsTrue marked → Ascends rows

-- the index of the first row of a number
abbrev pub first_in : {A : Type 0} → List (ℕ × A) → ℕ → Option ℕ
first_in [] number = None
first_in (row ∷ rows) number = if nat_eq row.0 number then Some 0 else option_map (λ i. suc i) (first_in rows number)

-- a map has the index of the first row of each number
abbrev pub ListsFirsts : {A : Type 0} → BTreeMap ℕ ℕ → List (ℕ × A) → Type 0
ListsFirsts firsts rows = (number : ℕ) → get nat_cmp firsts number ≡ first_in rows number

-- the same where a mark says so
abbrev pub ListsFirstsIf : {A : Type 0} → Bool → BTreeMap ℕ ℕ → List (ℕ × A) → Type 0
ListsFirstsIf marked firsts rows = IsTrue marked → ListsFirsts firsts rows

-- what a table's marks say of its rows
pub record IsMarked {A : Type 0} (rising listed : Bool) (firsts : BTreeMap ℕ ℕ) (rows : List (ℕ × A)) : Type 0 where
  pub ascends : AscendsIf rising rows
  pub lists : ListsFirstsIf listed firsts rows
