-- A number that is read digit by digit, where it isn't above the most.
use Rattle.std.specs.Prelude.{ℕ, ◌+◌, ◌*◌, ◌-◌, nat_le, Option, Some, None, if◌then◌else◌}
use Rattle.std.specs.Char.{is_ascii_digit}

-- the number, where there is one and it isn't above the most
abbrev pub at_most : ℕ → Option ℕ → Option ℕ
at_most most None = None
at_most most (Some n) = if nat_le n most then Some n else None

-- a number with one more byte after it, where that is a digit
abbrev pub next_number : ℕ → ℕ → Option ℕ
next_number n c = if is_ascii_digit c then Some (n * 10 + (c - 48)) else None
