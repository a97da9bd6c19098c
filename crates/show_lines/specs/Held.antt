-- What a reader of lines holds, and what its steps do to it.
use Rattle.std.specs.Prelude.{◌≡◌, ◌≢◌, ℕ, Bool, true, false, List, [], ◌∷◌, ◌++◌, Option, Some, None}
use Rattle.show_streams.specs.Reads.{preceded}
use Rattle.show_lines.specs.Lines.{IsLine, StandsAtEnd}

-- the front of a line whose end wasn't read, and what was read after it
pub record Held : Type 0 where
  pub line : List ℕ
  pub rest : List ℕ

-- nothing
abbrev pub none_held : Held
none_held = record { line = []; rest = [] }

-- what was read and not handed out
abbrev pub unread : Held → List ℕ
unread held = held.line ++ held.rest

-- what was read went behind the line, up to a newline
abbrev pub MovesUp : Held → Held → Type 0
MovesUp old new = (unread new ≡ unread old) × StandsAtEnd new.rest

-- what stood in front behind the line was taken off; or nothing stood there
abbrev pub SkipsNewline : Bool → Held → Held → Type 0
SkipsNewline true old new = (new.line ≡ old.line) × ((byte : ℕ) × (old.rest ≡ byte ∷ new.rest))
SkipsNewline false old new = (new ≡ old) × (old.rest ≡ [])

-- nothing is left to read, where that is told
abbrev pub IsSpent : Option (List ℕ) → Type 0
IsSpent None = Unit {0}
IsSpent (Some bytes) = bytes ≡ []

-- some bytes were read; or nothing is left to read
abbrev pub MovesOn : Bool → Held → Held → Option (List ℕ) → Option (List ℕ) → Type 0
MovesOn true old new left after = (new.line ≡ old.line) × (left ≡ preceded new.rest after)
MovesOn false old new left after = (new ≡ old) × (after ≡ left) × IsSpent left

-- the line is handed out, where it has a byte
abbrev pub TakesLast : Option (List ℕ) → Held → Held → Type 0
TakesLast None old new = (old.line ≡ []) × (new ≡ old)
TakesLast (Some line) old new = (line ≡ old.line) × IsLine line × (line ≢ []) × (new.line ≡ []) × (new.rest ≡ old.rest)
