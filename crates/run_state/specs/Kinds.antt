-- Where a number stands.
use Rattle.std.specs.Prelude.{ℕ, Bool, false, nat_eq, List, Option, Some, None}
use Rattle.std.specs.List.{slice_get}

-- a number that was found is this one
abbrev pub is_number : Option ℕ → ℕ → Bool
is_number None n = false
is_number (Some m) n = nat_eq m n

-- a number stands at an index
abbrev pub stands_at : List ℕ → ℕ → ℕ → Bool
stands_at xs i n = is_number (slice_get xs i) n
