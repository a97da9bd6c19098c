-- The input that bytes are.
use Rattle.std.specs.Prelude.{ℕ, List, Option, None, option_and_then, if◌then◌else◌, nat_lt, length}
use Rattle.std.specs.Str.{is_utf8}
use Rattle.serde_json.specs.Read.{read}
use Rattle.lang_syntax.specs.declared.source.InputSource.{InputSource}
use Rattle.lang_sources.specs.Inputs.{input_in}
use Rattle.lang_sources.specs.declared.reading.TheConstants.{SOURCE_LIMIT}

-- the input of a text that is JSON
abbrev pub text_of : List ℕ → Option InputSource
text_of bytes = if is_utf8 bytes then option_and_then input_in (read bytes) else None

-- the input that bytes are, where they are in its form
abbrev pub one_input_of : List ℕ → Option InputSource
one_input_of bytes = if nat_lt SOURCE_LIMIT (length bytes) then None else text_of bytes
