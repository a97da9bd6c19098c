-- Lines are cut off the front of bytes.
use Rattle.std.proofs.Common.{◌≡◌, ◌≢◌, ℕ, Bool, if◌then◌else◌, List, [], ◌∷◌, ◌++◌, refl, sym, ap, ◌∙◌, inl, inr}
use Rattle.show_lines.specs.Lines.{CutsLine, IsLine, lines_of, with_byte}

-- the first line of bytes that a newline cuts
first_line : (line rest : List ℕ) → IsLine line → lines_of (line ++ 10 ∷ rest) ≡ line ∷ lines_of rest
first_line [] rest is = refl
first_line (byte ∷ line) rest is =
    ap (λ (ends : Bool). if ends then [] ∷ lines_of (line ++ 10 ∷ rest) else with_byte byte (lines_of (line ++ 10 ∷ rest))) is.0
    ∙ ap (λ lines. with_byte byte lines) (first_line line rest is.1)

-- the only line of bytes without a newline
only_line : (byte : ℕ) (line : List ℕ) → IsLine (byte ∷ line) → lines_of (byte ∷ line) ≡ (byte ∷ line) ∷ []
only_line byte [] is = ap (λ (ends : Bool). if ends then [] ∷ lines_of [] else with_byte byte (lines_of [])) is.0
only_line byte (next ∷ line) is =
    ap (λ (ends : Bool). if ends then [] ∷ lines_of (next ∷ line) else with_byte byte (lines_of (next ∷ line))) is.0
    ∙ ap (λ lines. with_byte byte lines) (only_line next line is.1)

last_line : (line : List ℕ) → IsLine line → line ≢ [] → lines_of line ≡ line ∷ []
last_line [] is some = absurd (some refl)
last_line (byte ∷ line) is some = only_line byte line is

-- a line that was cut off is the first of all, and the others are those of the rest
pub lines_cut : (line all rest : List ℕ) → CutsLine line all rest → lines_of all ≡ line ∷ lines_of rest
lines_cut line all rest cut =
    elim cut.1 [
      | inl ends ↦ ap lines_of ends ∙ first_line line rest cut.0
      | inr last ↦ ap lines_of last.1 ∙ last_line line cut.0 last.0 ∙ ap (λ (left : List ℕ). line ∷ lines_of left) (sym last.2)
    ]
