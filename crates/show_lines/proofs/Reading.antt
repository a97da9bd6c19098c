-- What was read and not handed out stands before what is left, step by step.
use Rattle.std.proofs.Common.{◌≡◌, ℕ, ◌<◌, true, false, List, [], ◌∷◌, ◌++◌, length, refl, sym, ap, ◌∙◌, inl, inr, append_assoc, append-nil, subst}
use Rattle.std.specs.Prelude.{Option, Some, None}
use Rattle.show_streams.specs.Reads.{preceded}
use Rattle.show_lines.specs.Held.{Held, MovesOn, MovesUp, SkipsNewline, TakesLast, unread}
use Rattle.show_lines.specs.Lines.{FirstIsLonger, IsLine, ReadsLine, StandsAtEnd}

-- all that was held is the line, and nothing stands behind it
abbrev pub IsFront : Held → Held → Type 0
IsFront old front = (front.line ≡ unread old) × (front.rest ≡ [])

-- a line ended with a newline
abbrev pub HasLine : Held → Held → Type 0
HasLine old ended = unread old ≡ ended.line ++ 10 ∷ ended.rest

pub all_taken : (old up front : Held) → MovesUp old up → SkipsNewline false up front → IsFront old front
all_taken old up front moves skips = (
  ap (λ (h : Held). h.line) skips.0
      ∙ sym (append-nil up.line)
      ∙ ap (λ (rest : List ℕ). up.line ++ rest) (sym skips.1)
      ∙ moves.0,
  ap (λ (h : Held). h.rest) skips.0 ∙ skips.1,
)

pub line_taken : (old up ended : Held) → MovesUp old up → SkipsNewline true up ended → HasLine old ended
line_taken old up ended moves skips =
    let byte : ℕ = skips.1.0 in
    let rest : up.rest ≡ byte ∷ ended.rest = skips.1.1 in
    let newline : byte ≡ 10 = subst (λ (r : List ℕ). StandsAtEnd r) rest moves.1 in
    sym moves.0
    ∙ ap (λ (r : List ℕ). up.line ++ r) rest
    ∙ ap (λ (l : List ℕ). l ++ byte ∷ ended.rest) (sym skips.0)
    ∙ ap (λ (b : ℕ). ended.line ++ b ∷ ended.rest) newline

preceded_twice : (xs ys : List ℕ) (left : Option (List ℕ)) → preceded (xs ++ ys) left ≡ preceded xs (preceded ys left)
preceded_twice xs ys None = refl
preceded_twice xs ys (Some rest) = ap Some (append_assoc xs ys rest)

-- all that was held is the front of a line
all_held : (old front : Held) → IsFront old front → unread front ≡ unread old
all_held old front moves = ap (λ (rest : List ℕ). front.line ++ rest) moves.1 ∙ append-nil front.line ∙ moves.0

-- a piece more was read
pub more_read : (old front new : Held) (left after : Option (List ℕ)) → IsFront old front → MovesOn true front new left after
    → preceded (unread new) after ≡ preceded (unread old) left
more_read old front new left after moves on =
    preceded_twice new.line new.rest after
    ∙ ap (λ (l : Option (List ℕ)). preceded new.line l) (sym on.1)
    ∙ ap (λ (line : List ℕ). preceded line left) (on.0 ∙ moves.0)

-- a read failed
pub none_read : (old front new : Held) (left after : Option (List ℕ)) → IsFront old front → new ≡ front → after ≡ left
    → preceded (unread new) after ≡ preceded (unread old) left
none_read old front new left after moves same still =
    ap (λ (l : Option (List ℕ)). preceded (unread new) l) still
    ∙ ap (λ (held : List ℕ). preceded held left) (ap (λ (h : Held). unread h) same ∙ all_held old front moves)

-- a line ends where a newline stands
pub line_ends : (old front new : Held) (line : List ℕ) (left : Option (List ℕ)) → HasLine old front
    → line ≡ front.line → IsLine line → new.line ≡ [] → new.rest ≡ front.rest
    → ReadsLine (Some line) (preceded (unread old) left) (preceded (unread new) left)
line_ends old front new line None moves same is none rest = refl
line_ends old front new line (Some more) moves same is none rest = (
  front.rest ++ more,
  ap (λ (held : List ℕ). Some (held ++ more)) (ap (λ (l : List ℕ). l ++ new.rest) none ∙ rest),
  (
    is,
    inl
        (ap (λ (held : List ℕ). held ++ more) moves
        ∙ append_assoc front.line (10 ∷ front.rest) more
        ∙ ap (λ (l : List ℕ). l ++ 10 ∷ (front.rest ++ more)) (sym same)),
  ),
)

-- the last line has no newline
pub line_over : (old front held new : Held) (found left after : Option (List ℕ)) → IsFront old front → MovesOn false front held left after
    → TakesLast found held new
    → ReadsLine found (preceded (unread old) left) (preceded (unread new) after)
line_over old front held new None None after moves on takes = ap (λ (l : Option (List ℕ)). preceded (unread new) l) on.1
line_over old front held new (Some line) None after moves on takes = ap (λ (l : Option (List ℕ)). preceded (unread new) l) on.1
line_over old front held new None (Some bytes) after moves on takes =
    let spent : bytes ≡ [] = on.2 in
    let all : unread old ≡ [] = sym moves.0 ∙ ap (λ (h : Held). h.line) (sym on.0) ∙ takes.0 in
    let none : unread old ++ bytes ≡ [] = ap (λ (held : List ℕ). held ++ bytes) all ∙ spent in
    let same : unread new ≡ unread old = ap (λ (h : Held). unread h) (takes.1 ∙ on.0) ∙ all_held old front moves in (
      none,
      ap (λ (l : Option (List ℕ)). preceded (unread new) l) on.1 ∙ ap (λ (held : List ℕ). Some (held ++ bytes)) same ∙ ap Some none,
    )
line_over old front held new (Some line) (Some bytes) after moves on takes =
    let spent : bytes ≡ [] = on.2 in
    let all : unread old ≡ line = sym moves.0 ∙ ap (λ (h : Held). h.line) (sym on.0) ∙ sym takes.0 in
    let rest : new.rest ≡ [] = takes.4 ∙ ap (λ (h : Held). h.rest) on.0 ∙ moves.1 in
    let none : unread new ≡ [] = ap (λ (l : List ℕ). l ++ new.rest) takes.3 ∙ rest in (
      [],
      ap (λ (l : Option (List ℕ)). preceded (unread new) l) on.1 ∙ ap (λ (held : List ℕ). Some (held ++ bytes)) none ∙ ap Some spent,
      (
        takes.1,
        inr (
          takes.2,
          ap (λ (held : List ℕ). held ++ bytes) all ∙ ap (λ (b : List ℕ). line ++ b) spent ∙ append-nil line,
          refl,
        ),
      ),
    )

-- more bytes than that stand before a newline
pub front_longer : (most : ℕ) (old up : Held) (left : Option (List ℕ)) → MovesUp old up → IsLine up.line → most < length up.line
    → FirstIsLonger most (preceded (unread old) left)
front_longer most old up None moves is longer = tt
front_longer most old up (Some more) moves is longer = (
  up.line,
  up.rest ++ more,
  ap (λ (held : List ℕ). held ++ more) (sym moves.0) ∙ append_assoc up.line up.rest more,
  is,
  longer,
)
