-- Rows that stay where they are when a value goes, and those that have one.
use Rattle.std.specs.Prelude.{ℕ, ◌≤◌, ◌+◌, ⊤, Bool, ◌&&◌, IsTrue, List, [], ◌∷◌, ◌++◌, ◌≡◌, Option, Some, None, nat_eq, is_some}

-- a row in front, where it has a value
abbrev pub and_live : {A : Type 0} → ℕ → Option A → List (ℕ × A) → List (ℕ × A)
and_live n None more = more
and_live n (Some a) more = (n, a) ∷ more

-- the rows that have a value
abbrev pub live : {A : Type 0} → List (ℕ × Option A) → List (ℕ × A)
live [] = []
live (e ∷ es) = and_live e.0 e.1 (live es)

-- each number is at least this, and below those behind it
abbrev pub Rises : {A : Type 0} → ℕ → List (ℕ × A) → Type 0
Rises low [] = ⊤
Rises low (e ∷ es) = (low ≤ e.0) × Rises (e.0 + 1) es

-- the numbers rise, where a mark says so
abbrev pub RisesIf : {A : Type 0} → Bool → List (ℕ × A) → Type 0
RisesIf marked rows = IsTrue marked → Rises 0 rows

-- whether a row of a number has a value
abbrev pub has_value : {A : Type 0} → ℕ × Option A → ℕ → Bool
has_value row n = nat_eq row.0 n && is_some row.1

-- a value stands behind all others
pub record IsLast {A : Type 0} (rows : List (ℕ × A)) (value : A) : Type 0 where
  pub front : List (ℕ × A)
  pub number : ℕ
  pub ends : rows ≡ front ++ (number, value) ∷ []
