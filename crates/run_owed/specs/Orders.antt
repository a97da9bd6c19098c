-- The order of scopes and tasks, by what they were entered with.
use Rattle.std.specs.Prelude.{ℕ, Bool, ◌&&◌, ◌||◌, nat_eq, nat_lt, List, [], ◌∷◌, Option, Some, None}
use Rattle.run_owed.specs.Lists.{held}

-- whether one height and number comes before another: by height, and then by number
abbrev pub comes_before : ℕ × ℕ → ℕ × ℕ → Bool
comes_before a b = nat_lt a.0 b.0 || (nat_eq a.0 b.0 && nat_lt a.1 b.1)

-- whether a number's rank comes before another's
abbrev pub sooner : (ℕ → ℕ × ℕ) → ℕ → ℕ → Bool
sooner rank n m = comes_before (rank n) (rank m)

-- the height that a scope was entered with, and its number
abbrev pub scope_rank : List (ℕ × ℕ) → ℕ → ℕ × ℕ
scope_rank scopes s = (held scopes s, s)

-- the same of the scope that a task was entered with
abbrev pub task_rank : List (ℕ × ℕ) → List (ℕ × ℕ) → ℕ → ℕ × ℕ
task_rank scopes tasks t = scope_rank scopes (held tasks t)

-- the first number
abbrev pub first_number : List ℕ → Option ℕ
first_number [] = None
first_number (n ∷ ns) = Some n
