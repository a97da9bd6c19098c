-- What `serde_json` tells of the bytes, as the source in them.
use Rattle.std.proofs.Common.{◌≡◌, ℕ, List, Bool, true, false, Some, None, option_and_then, if◌then◌else◌, refl, ap, ◌∙◌}
use Rattle.std.specs.Str.{IsUtf8, is_utf8}
use Rattle.std.proofs.lemmas.Str.{IsUtf8-from_is_utf8, is_utf8-from_IsUtf8}
use Rattle.serde_json.specs.Data.{Data}
use Rattle.serde_json.specs.Read.{read}
use Rattle.lang_sources.specs.Whole.{source_in}
use Rattle.lang_sources.specs.Sources.{text_of}

-- a value was read
pub text_of-read : (bytes : List ℕ) (d : Data) → IsUtf8 bytes → read bytes ≡ Some d → text_of bytes ≡ source_in d
text_of-read bytes d utf8 is =
    ap (λ b. if b then option_and_then source_in (read bytes) else None) (is_utf8-from_IsUtf8 bytes utf8) ∙ ap (option_and_then source_in) is

refused_at : (bytes : List ℕ) (b : Bool) → is_utf8 bytes ≡ b → (IsUtf8 bytes → read bytes ≡ None) → (if b then option_and_then source_in (read bytes) else None) ≡ None
refused_at bytes true is refused = ap (option_and_then source_in) (refused (IsUtf8-from_is_utf8 bytes is))
refused_at bytes false is refused = refl

-- no value was read, and memory was not at fault
pub text_of-refused : (bytes : List ℕ) → (IsUtf8 bytes → read bytes ≡ None) → text_of bytes ≡ None
text_of-refused bytes refused = refused_at bytes (is_utf8 bytes) refl refused
