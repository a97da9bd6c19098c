-- Where a line ends, and what stands before and behind that.
use Rattle.std.proofs.Common.{◌≡◌, ℕ, suc, ◌+◌, ◌-◌, ◌<◌, ◌≤◌, nat_eq, Bool, true, false, not, cond, List, [], ◌∷◌, ◌++◌, length, take, drop, get_or, refl, sym, ap, ◌∙◌, subst, append_assoc, arith}
use Rattle.std.proofs.lemmas.Bool.{eqb-true, ne_eqb}
use Rattle.std.proofs.lemmas.List.{drop-drop, get_or-drop, length-drop, take-append-drop}
use Rattle.std.proofs.lemmas.List.Sums.{prefix_len-le-length, prefix_len_is}
use Rattle.show_lines.specs.Held.{MovesUp}
use Rattle.show_lines.specs.Lines.{IsLine, StandsAtEnd, is_plain, line_length}

-- a place before which no newline stands from another one on, and at which one stands if any byte does, ends a line
pub line_ends_at : (bytes : List ℕ) (from at : ℕ) → from ≤ at → at ≤ length bytes
    → ((k : ℕ) → from ≤ k → k < at → get_or bytes k 0 ≡ 10 → ⊥)
    → (at < length bytes → get_or bytes at 0 ≡ 10)
    → at ≡ from + line_length (drop from bytes)
line_ends_at bytes from at above within none newline =
    let size : length (drop from bytes) ≡ length bytes - from = length-drop from bytes in
    let there : from + (at - from) ≡ at = omega arith in
    let passes : (k : ℕ) → k < at - from → is_plain (get_or (drop from bytes) k 0) ≡ true =
    λ k less.
    ap (λ byte. is_plain byte) (get_or-drop from bytes k 0)
    ∙ ap (λ b. not b) (ne_eqb (get_or bytes (from + k) 0) 10 (none (from + k) (omega arith) (omega arith))) in
    let stops : at - from < length (drop from bytes) → is_plain (get_or (drop from bytes) (at - from) 0) ≡ false =
    λ less.
    let short : at < length bytes = omega arith in
    ap (λ byte. is_plain byte) (get_or-drop from bytes (at - from) 0 ∙ ap (λ k. get_or bytes k 0) there ∙ newline short) in
    let is : line_length (drop from bytes) ≡ at - from = prefix_len_is is_plain (drop from bytes) (at - from) 0 (omega arith) passes stops in
    omega arith

plain_by : (byte : ℕ) (bytes : List ℕ) (ends : Bool) → nat_eq byte 10 ≡ ends → IsLine (take (line_length bytes) bytes)
    → IsLine (take (cond (not ends) (1 + line_length bytes) 0) (byte ∷ bytes))
plain_by byte bytes true is rest = tt
plain_by byte bytes false is rest =
    let more : suc (line_length bytes) ≡ 1 + line_length bytes = omega arith in
    subst (λ (n : ℕ). IsLine (take n (byte ∷ bytes))) more (is, rest)

-- what stands before the first newline is a line
line_plain : (bytes : List ℕ) → IsLine (take (line_length bytes) bytes)
line_plain [] = tt
line_plain (byte ∷ bytes) = plain_by byte bytes (nat_eq byte 10) refl (line_plain bytes)

stands_by : (byte : ℕ) (bytes : List ℕ) (ends : Bool) → nat_eq byte 10 ≡ ends → StandsAtEnd (drop (line_length bytes) bytes)
    → StandsAtEnd (drop (cond (not ends) (1 + line_length bytes) 0) (byte ∷ bytes))
stands_by byte bytes true is rest = eqb-true byte 10 is
stands_by byte bytes false is rest =
    let more : suc (line_length bytes) ≡ 1 + line_length bytes = omega arith in
    subst (λ (n : ℕ). StandsAtEnd (drop n (byte ∷ bytes))) more rest

-- behind it stands nothing, or the newline
line_stands : (bytes : List ℕ) → StandsAtEnd (drop (line_length bytes) bytes)
line_stands [] = tt
line_stands (byte ∷ bytes) = stands_by byte bytes (nat_eq byte 10) refl (line_stands bytes)

-- two lines in a row are one
line_both : (front line : List ℕ) → IsLine front → IsLine line → IsLine (front ++ line)
line_both [] line first second = second
line_both (byte ∷ front) line first second = (first.0, line_both front line first.1 second)

module _ (line new chunk : List ℕ) (at to : ℕ) (ends : to ≡ at + line_length (drop at chunk)) where
  size : to - at ≡ line_length (drop at chunk)
  size = omega arith

  -- what stands before the newline goes behind the line
  pub moves_up : new ≡ line ++ take (to - at) (drop at chunk) → MovesUp (record { line = line; rest = drop at chunk }) (record { line = new; rest = drop to chunk })
  moves_up is =
      let n = line_length (drop at chunk) in
      let left : drop to chunk ≡ drop n (drop at chunk) = ap (λ (m : ℕ). drop m chunk) ends ∙ sym (drop-drop n at chunk) in
      let here : new ≡ line ++ take n (drop at chunk) = is ∙ ap (λ (m : ℕ). line ++ take m (drop at chunk)) size in (
        ap (λ (l : List ℕ). l ++ drop to chunk) here
            ∙ ap (λ (l : List ℕ). (line ++ take n (drop at chunk)) ++ l) left
            ∙ append_assoc line (take n (drop at chunk)) (drop n (drop at chunk))
            ∙ ap (λ (l : List ℕ). line ++ l) (take-append-drop n (drop at chunk)),
        subst (λ (l : List ℕ). StandsAtEnd l) (sym left) (line_stands (drop at chunk)),
      )

  -- which stays one
  pub plain_up : IsLine line → IsLine (line ++ take (to - at) (drop at chunk))
  plain_up is =
      line_both line (take (to - at) (drop at chunk)) is
      (subst (λ (n : ℕ). IsLine (take n (drop at chunk))) (sym size) (line_plain (drop at chunk)))

  -- and it ends within what was read
  pub within_up : at ≤ length chunk → to ≤ length chunk
  within_up within =
      let few : line_length (drop at chunk) ≤ length (drop at chunk) = prefix_len-le-length is_plain (drop at chunk) in
      let left : length (drop at chunk) ≡ length chunk - at = length-drop at chunk in
      omega arith
