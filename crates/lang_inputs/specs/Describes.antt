-- Which input bytes describe.
use Rattle.std.specs.Prelude.{◌≡◌, ◌≤◌, ℕ, List, length, Some, option_map}
use Rattle.std.specs.Str.{IsUtf8}
use Rattle.serde_json.specs.Data.{Data}
use Rattle.serde_json.specs.Read.{read}
use Rattle.rt_language.specs.Syntax as language
use Rattle.lang_syntax.specs.Mirror.{input_of}
use Rattle.lang_sources.specs.Inputs.{input_in}
use Rattle.lang_sources.specs.declared.reading.TheConstants.{SOURCE_LIMIT}

-- the bytes are JSON in the form of an input, which says this
pub record DescribesInput (bytes : List ℕ) (input : language.InputSource) : Type 0 where
  pub size : length bytes ≤ SOURCE_LIMIT
  pub text : IsUtf8 bytes
  -- the value that the text is in JSON
  pub value : Data
  pub json : read bytes ≡ Some value
  pub form : option_map input_of (input_in value) ≡ Some input
