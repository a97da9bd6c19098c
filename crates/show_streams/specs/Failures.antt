-- How many of the numbered calls have been made.
use Rattle.std.specs.Prelude.{ℕ, ◌+◌, List, [], ◌∷◌, if◌then◌else◌, nat_le}

-- how many of these numbers are those of calls that were made
abbrev pub failures : List ℕ → ℕ → ℕ
failures [] made = 0
failures (call ∷ calls) made = (if nat_le call made then 1 else 0) + failures calls made
