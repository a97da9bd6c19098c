-- What the words of the program ask for.
use Rattle.std.specs.Prelude.{ℕ, ◌+◌, ◌-◌, ◌*◌, ◌≡◌, ◌≤◌, List, [], ◌∷◌, Bool, true, false, ◌&&◌, ◌==◌, nat_le, if◌then◌else◌, Option, Some, None, option_and_then, option_map, bytes_eq, codes}
use Rattle.run_reports.specs.declared.limits.Limits.{Limits}
use Rattle.run_reports.specs.Seen.{usual}
use Rattle.show_words.specs.declared.words.Size.{Size}
use Rattle.show_words.specs.declared.words.Wish.{Wish}
use Rattle.show_words.specs.declared.words.Wish.TheVariants.{Run, Make, Screen, Audit}

-- a number, where it is at most so much
abbrev pub at_most : ℕ → ℕ → Option ℕ
at_most most number = if nat_le number most then Some number else None

-- a number with one more decimal digit, where it is at most so much
abbrev pub with_digit : ℕ → ℕ → ℕ → Option ℕ
with_digit most number digit = if nat_le 48 digit && nat_le digit 57 then at_most most (number * 10 + (digit - 48)) else None

-- a number with more digits
abbrev pub with_digits : ℕ → ℕ → List ℕ → Option ℕ
with_digits most number [] = Some number
with_digits most number (digit ∷ digits) = option_and_then (λ more. with_digits most more digits) (with_digit most number digit)

-- bytes begin with a zero and go on
abbrev pub leads_with_zero : List ℕ → Bool
leads_with_zero [] = false
leads_with_zero (digit ∷ []) = false
leads_with_zero (digit ∷ next ∷ digits) = digit == 48

-- the number that digits write without a sign or a leading zero, where it is at most so much
abbrev pub number_of : ℕ → List ℕ → Option ℕ
number_of most [] = None
number_of most (digit ∷ digits) = if leads_with_zero (digit ∷ digits) then None else with_digits most 0 (digit ∷ digits)

-- a number that is at least 1
abbrev pub positive : ℕ → Option ℕ
positive number = if number == 0 then None else Some number

-- how many rows a word with its number asks for: from 1 to 10,000
abbrev pub rows_of : List ℕ → List ℕ → Option ℕ
rows_of word number = if bytes_eq word (codes "--make") then option_and_then positive (number_of 10000 number) else None

-- how many columns or rows are asked for: from 1 to 200
abbrev pub lines_of : List ℕ → Option ℕ
lines_of number = option_and_then positive (number_of 200 number)

-- a screen of so many columns and rows
abbrev pub sized : ℕ → ℕ → Size
sized width height = record { width = width; height = height }

-- the size of the screen that a word with its two numbers asks for
abbrev pub size_of : List ℕ → List ℕ → List ℕ → Option Size
size_of word width height =
    if bytes_eq word (codes "--screen") then option_and_then (λ columns. option_map (sized columns) (lines_of height)) (lines_of width)
    else None

-- limits with so many units, and with such a height
abbrev pub with_units : Limits → ℕ → Limits
with_units limits units = record { units = units; height = limits.height; drain = limits.drain }

abbrev pub with_height : Limits → ℕ → Limits
with_height limits height = record { units = limits.units; height = height; drain = limits.drain }

-- limits, but for the one that a word with its number sets: units to 10,000,000, or a height to 256
abbrev pub with_limit : Limits → List ℕ → List ℕ → Option Limits
with_limit limits word number =
    if bytes_eq word (codes "--units") then option_map (with_units limits) (number_of 10000000 number)
    else (if bytes_eq word (codes "--height") then option_map (with_height limits) (number_of 256 number) else None)

-- the run that one word with its number limits
abbrev pub run_with : List ℕ → List ℕ → Option Wish
run_with word number = option_map Run (with_limit usual word number)

-- what one word with its number asks for
abbrev pub pair_of : Option ℕ → List ℕ → List ℕ → Option Wish
pair_of (Some rows) word number = Some (Make rows)
pair_of None word number = run_with word number

-- what the words ask for, none where they aren't known: nothing, the one for a recorded run, one of the three with its number, the one of
-- a screen with its two, or two that limit a run
abbrev pub wish_of : List (List ℕ) → Option Wish
wish_of [] = Some (Run usual)
wish_of (word ∷ []) = if bytes_eq word (codes "--audit") then Some Audit else None
wish_of (word ∷ number ∷ []) = pair_of (rows_of word number) word number
wish_of (word ∷ number ∷ other ∷ []) = option_map Screen (size_of word number other)
wish_of (word ∷ number ∷ other ∷ second ∷ []) =
    if bytes_eq word other then None
    else option_map Run (option_and_then (λ limits. with_limit limits other second) (with_limit usual word number))
wish_of (word ∷ number ∷ other ∷ second ∷ more ∷ words) = None

-- a screen has from 1 to 200 columns, and as many rows
abbrev pub IsLines : ℕ → Type 0
IsLines lines = (1 ≤ lines) × (lines ≤ 200)

abbrev pub IsSize : Size → Type 0
IsSize size = IsLines size.width × IsLines size.height

-- no more than 10,000 rows are asked for, and no larger screen
abbrev pub IsFew : Wish → Type 0
IsFew (Run limits) = Unit {0}
IsFew (Make rows) = rows ≤ 10000
IsFew (Screen size) = IsSize size
IsFew Audit = Unit {0}

-- the source is read for what is asked
abbrev pub reads_source : Wish → Bool
reads_source (Run limits) = true
reads_source (Make rows) = false
reads_source (Screen size) = true
reads_source Audit = true

-- the words ask for something for which the source is read
pub record AskForSource (words : List (List ℕ)) : Type 0 where
  pub wish : Wish
  pub asked : wish_of words ≡ Some wish
  pub reads : reads_source wish ≡ true
