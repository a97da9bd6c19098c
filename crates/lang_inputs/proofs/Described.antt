-- What is read of the bytes is what they describe, and the other way round.
use Rattle.std.proofs.Common.{◌≡◌, ◌≤◌, ℕ, List, length, Bool, true, false, Some, None, option_map, option_and_then, if◌then◌else◌, refl, ap, ◌∙◌}
use Rattle.std.specs.Prelude.{nat_lt}
use Rattle.std.specs.Str.{IsUtf8, is_utf8}
use Rattle.std.proofs.lemmas.Bool.{ltb-false, le-ltb}
use Rattle.std.proofs.lemmas.Str.{IsUtf8-from_is_utf8, is_utf8-from_IsUtf8}
use Rattle.serde_json.specs.Data.{Data}
use Rattle.serde_json.specs.Read.{read}
use Rattle.rt_language.specs.Syntax as language
use Rattle.lang_syntax.specs.Mirror.{input_of}
use Rattle.lang_syntax.specs.declared.source.InputSource.{InputSource}
use Rattle.lang_sources.specs.Inputs.{input_in}
use Rattle.lang_sources.specs.declared.reading.TheConstants.{SOURCE_LIMIT}
use Rattle.lang_sources.proofs.Origins.{none_is, first, held}
use Rattle.lang_inputs.specs.Inputs.{one_input_of, text_of}
use Rattle.lang_inputs.specs.Describes.{DescribesInput}

-- a value was read
pub text_of-read : (bytes : List ℕ) (d : Data) → IsUtf8 bytes → read bytes ≡ Some d → text_of bytes ≡ input_in d
text_of-read bytes d utf8 is =
    ap (λ b. if b then option_and_then input_in (read bytes) else None) (is_utf8-from_IsUtf8 bytes utf8) ∙ ap (option_and_then input_in) is

refused_at : (bytes : List ℕ) (b : Bool) → is_utf8 bytes ≡ b → (IsUtf8 bytes → read bytes ≡ None)
    → (if b then option_and_then input_in (read bytes) else None) ≡ None
refused_at bytes true is refused = ap (option_and_then input_in) (refused (IsUtf8-from_is_utf8 bytes is))
refused_at bytes false is refused = refl

-- no value was read, and memory was not at fault
pub text_of-refused : (bytes : List ℕ) → (IsUtf8 bytes → read bytes ≡ None) → text_of bytes ≡ None
text_of-refused bytes refused = refused_at bytes (is_utf8 bytes) refl refused

json_sound : (bytes : List ℕ) (input : InputSource) → length bytes ≤ SOURCE_LIMIT → IsUtf8 bytes
    → option_and_then input_in (read bytes) ≡ Some input → DescribesInput bytes (input_of input)
json_sound bytes input size utf8 h =
    let found = first input_in (read bytes) input h in
    record { size = size; text = utf8; value = found.0; json = found.1.0; form = ap (option_map input_of) found.1.1 }

text_sound : (bytes : List ℕ) (input : InputSource) → length bytes ≤ SOURCE_LIMIT → text_of bytes ≡ Some input
    → DescribesInput bytes (input_of input)
text_sound bytes input size h =
    let utf8 = held (is_utf8 bytes) (option_and_then input_in (read bytes)) input h in
    json_sound bytes input size (IsUtf8-from_is_utf8 bytes utf8.0) utf8.1

size_sound : (bytes : List ℕ) (input : InputSource) (b : Bool) → nat_lt SOURCE_LIMIT (length bytes) ≡ b
    → (if b then None else text_of bytes) ≡ Some input → DescribesInput bytes (input_of input)
size_sound bytes input true size h = none_is input h
size_sound bytes input false size h = text_sound bytes input (ltb-false SOURCE_LIMIT (length bytes) size) h

-- what is read of the bytes is what they describe
pub input_sound : (bytes : List ℕ) (input : InputSource) → one_input_of bytes ≡ Some input → DescribesInput bytes (input_of input)
input_sound bytes input h = size_sound bytes input (nat_lt SOURCE_LIMIT (length bytes)) refl h

-- what the bytes describe is read of them
pub input_complete : (bytes : List ℕ) (said : language.InputSource) → DescribesInput bytes said
    → option_map input_of (one_input_of bytes) ≡ Some said
input_complete bytes said h =
    let is : one_input_of bytes ≡ input_in h.value =
    ap (λ b. if b then None else text_of bytes) (le-ltb SOURCE_LIMIT (length bytes) h.size) ∙ text_of-read bytes h.value h.text h.json in
    ap (option_map input_of) is ∙ h.form
