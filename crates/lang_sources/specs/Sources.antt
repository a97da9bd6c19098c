-- The source that bytes are.
use Rattle.std.specs.Prelude.{ℕ, List, Option, None, option_and_then, if◌then◌else◌, nat_lt, length}
use Rattle.std.specs.Str.{is_utf8}
use Rattle.serde_json.specs.Read.{read}
use Rattle.lang_syntax.specs.declared.source.Source.{Source}
use Rattle.lang_sources.specs.Whole.{source_in}
use Rattle.lang_sources.specs.declared.reading.TheConstants.{SOURCE_LIMIT}

-- the source of a text that is JSON
abbrev pub text_of : List ℕ → Option Source
text_of bytes = if is_utf8 bytes then option_and_then source_in (read bytes) else None

-- the source that bytes are, where they are in its form
abbrev pub application_of : List ℕ → Option Source
application_of bytes = if nat_lt SOURCE_LIMIT (length bytes) then None else text_of bytes
