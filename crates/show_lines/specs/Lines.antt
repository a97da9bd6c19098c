-- The lines of bytes.
use Rattle.std.specs.List.{prefix_len}
use Rattle.std.specs.Prelude.{◌≡◌, ◌≢◌, ◌⊎◌, ℕ, ◌<◌, nat_eq, Bool, false, not, if◌then◌else◌, List, [], ◌∷◌, ◌++◌, length, Option, Some, None}

-- a byte stands before the lines of what follows it
abbrev pub with_byte : ℕ → List (List ℕ) → List (List ℕ)
with_byte byte [] = (byte ∷ []) ∷ []
with_byte byte (first ∷ lines) = (byte ∷ first) ∷ lines

-- the lines of bytes, without their newlines; the last one may have none
abbrev pub lines_of : List ℕ → List (List ℕ)
lines_of [] = []
lines_of (byte ∷ bytes) = if nat_eq byte 10 then [] ∷ lines_of bytes else with_byte byte (lines_of bytes)

-- no byte is a newline
abbrev pub IsLine : List ℕ → Type 0
IsLine [] = Unit {0}
IsLine (byte ∷ bytes) = (nat_eq byte 10 ≡ false) × IsLine bytes

-- a byte ends no line
abbrev pub is_plain : ℕ → Bool
is_plain byte = not (nat_eq byte 10)

-- how many bytes stand before the first newline, or how many there are
abbrev pub line_length : List ℕ → ℕ
line_length bytes = prefix_len is_plain bytes

-- nothing stands there, or a newline
abbrev pub StandsAtEnd : List ℕ → Type 0
StandsAtEnd [] = Unit {0}
StandsAtEnd (byte ∷ bytes) = byte ≡ 10

-- a line was cut off the front of bytes with its newline; or it was all of them, not empty and without one
abbrev pub CutsLine : List ℕ → (all rest : List ℕ) → Type 0
CutsLine line all rest = IsLine line × ((all ≡ line ++ 10 ∷ rest) ⊎ ((line ≢ []) × (all ≡ line) × (rest ≡ [])))

-- a line of what is to be read, where that is told; none where nothing is
abbrev pub ReadsLine : Option (List ℕ) → (before after : Option (List ℕ)) → Type 0
ReadsLine found None after = after ≡ None
ReadsLine None (Some all) after = (all ≡ []) × (after ≡ Some [])
ReadsLine (Some line) (Some all) after = (rest : List ℕ) × (after ≡ Some rest) × CutsLine line all rest

-- more bytes than that stand before the first newline of what is to be read, where that is told
abbrev pub FirstIsLonger : ℕ → Option (List ℕ) → Type 0
FirstIsLonger most None = Unit {0}
FirstIsLonger most (Some all) = (front rest : List ℕ) × (all ≡ front ++ rest) × IsLine front × (most < length front)
