-- Entries of a log whose numbers have at most 64 bits.
use Rattle.std.specs.Prelude.{ℕ, ◌^◌, ◌<◌}
use Rattle.rt_model.specs.Replay.{Entry, Build, Taken, Heard, Rerun, Poll, Effects, Made, Fed, Kept, Removed}

-- the number that an entry names
abbrev pub number_in : Entry → ℕ
number_in Build = 0
number_in (Taken k) = k
number_in (Heard s) = s
number_in (Rerun s) = s
number_in (Poll t) = t
number_in (Effects s) = s
number_in (Made s) = s
number_in (Fed s) = s
number_in (Kept s) = s
number_in (Removed s) = s

-- it has at most 64 bits
abbrev pub IsSmallEntry : Entry → Type 0
IsSmallEntry e = number_in e < 2 ^ 64
