-- A character is spelt as its bytes are, one after another.
use Rattle.std.proofs.Common.{◌≡◌, ℕ, zero, suc, ◌<◌, ◌≤◌, List, [], ◌∷◌, ◌++◌, length, get_or, inl, inr, refl, sym, ap, ap₂, ◌∙◌, arith, append_assoc, append-nil, chars, encode_utf8_all, IsUtf8}
use Rattle.std.specs.Char.{encode_utf8}
use Rattle.std.proofs.lemmas.Bool.{cases_lt, ne_eqb}
use Rattle.std.proofs.lemmas.Grind.{flat_map-append}
use Rattle.std.proofs.lemmas.Str.{encode_ascii, encodes-append, encodes-chars, inside_one}
use Rattle.rt_html.specs.Spelling.{escape, escaped, named_or}

-- only ASCII has names
unnamed : (code : ℕ) (plain : List ℕ) → 128 ≤ code → named_or code plain ≡ plain
unnamed code plain high =
    rw (
      ne_eqb code 38 (λ e. omega arith),
      ne_eqb code 60 (λ e. omega arith),
      ne_eqb code 62 (λ e. omega arith),
      ne_eqb code 34 (λ e. omega arith),
      ne_eqb code 10 (λ e. omega arith),
    ) refl

-- so other bytes stand for themselves
others : (bytes : List ℕ) → ((k : ℕ) → k < length bytes → 128 ≤ get_or bytes k 0) → escaped bytes ≡ bytes
others [] high = refl
others (byte ∷ bytes) high =
    let first : 128 ≤ byte = high 0 (omega arith) in
    ap₂ (λ (a b : List ℕ). a ++ b) (unnamed byte (byte ∷ []) first) (others bytes (λ k below. high (suc k) (omega arith)))

-- a character's bytes one by one, and the character
pub of_character : (c : ℕ) → escaped (encode_utf8 c) ≡ named_or c (encode_utf8 c)
of_character c = elim (cases_lt c 128) [
  | inl small ↦ rw (encode_ascii c small) (append-nil (named_or c (c ∷ [])))
  | inr big ↦
      let high : (k : ℕ) → k < length (encode_utf8 c) → 128 ≤ get_or (encode_utf8 c) k 0 =
      λ k below. elim (cases_lt (get_or (encode_utf8 c) k 0) 128) [
        | inl low ↦ absurd (omega (arith, inside_one c [] (encode_utf8 c) k (sym (append-nil (encode_utf8 c))) below low))
        | inr all_high ↦ all_high
      ] in
      others (encode_utf8 c) high ∙ sym (unnamed c (encode_utf8 c) big)
]

-- the characters so far, and one more
pub one_more : (before : List ℕ) (characters : List ℕ) (c : ℕ) (now new : List ℕ) → now ≡ before ++ escaped (encode_utf8_all characters)
    → new ≡ now ++ named_or c (encode_utf8 c) → new ≡ before ++ escaped (encode_utf8_all (characters ++ c ∷ []))
one_more before characters c now new so_far added =
    let done : List ℕ = escaped (encode_utf8_all characters) in
    let next : named_or c (encode_utf8 c) ≡ escaped (encode_utf8 c ++ []) =
    sym (of_character c) ∙ ap escaped (sym (append-nil (encode_utf8 c))) in
    let both : done ++ named_or c (encode_utf8 c) ≡ escaped (encode_utf8_all (characters ++ c ∷ [])) =
    ap (λ (t : List ℕ). done ++ t) next
    ∙ sym (flat_map-append escape (encode_utf8_all characters) (encode_utf8 c ++ []))
    ∙ ap escaped (sym (encodes-append characters (c ∷ []))) in
    added
    ∙ ap (λ (t : List ℕ). t ++ named_or c (encode_utf8 c)) so_far
    ∙ append_assoc before done (named_or c (encode_utf8 c))
    ∙ ap (λ (t : List ℕ). before ++ t) both

-- all characters of a text
pub all_of_them : (before characters text now : List ℕ) → now ≡ before ++ escaped (encode_utf8_all characters) → characters ≡ chars text
    → IsUtf8 text → now ≡ before ++ escaped text
all_of_them before characters text now so_far all utf8 =
    so_far
    ∙ ap (λ (cs : List ℕ). before ++ escaped (encode_utf8_all cs)) all
    ∙ ap (λ (t : List ℕ). before ++ escaped t) (encodes-chars text utf8)
