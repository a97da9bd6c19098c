-- Bytes that JSON writes as they are.
use Rattle.std.proofs.Common.{ℕ, suc, ◌+◌, ◌<◌, ◌≤◌, List, [], ◌∷◌, ◌++◌, length, take, get_or, ◌≡◌, ◌∙◌, ap, sym, arith}
use Rattle.std.proofs.Math.Seq.{take-suc}
use Rattle.std.proofs.lemmas.Grind.{flat_map-append}
use Rattle.json.specs.Print.{escape_byte, escape}
use Rattle.json.proofs.Printed.Strings.{escape_byte_plain}

-- one byte more, which is no quote, no backslash and no control
pub plain-more : (bytes : List ℕ) (i next default : ℕ) → i < length bytes → next ≡ i + 1 → escape (take i bytes) ≡ take i bytes
    → (get_or bytes i default ≡ 34 → ⊥) → (get_or bytes i default ≡ 92 → ⊥) → 32 ≤ get_or bytes i default
    → escape (take next bytes) ≡ take next bytes
plain-more bytes i next default low step so_far quote backslash printed =
    let after : next ≡ suc i = omega (arith, step) in
    let more = ap (λ n. take n bytes) after ∙ take-suc bytes i default low in
    ap escape more
    ∙ flat_map-append escape_byte (take i bytes) (get_or bytes i default ∷ [])
    ∙ (λ j. so_far j ++ (escape_byte_plain (get_or bytes i default) quote backslash printed j ++ []))
    ∙ sym more
