-- Which recorded run bytes describe.
use Rattle.std.specs.Prelude.{◌≡◌, ◌≤◌, ◌+◌, ℕ, List, length, cond, codes, Some}
use Rattle.std.specs.Ordering.{nat_cmp, is_eq}
use Rattle.std.specs.Cmp.Lexicographic.{slice_cmp}
use Rattle.std.specs.Str.{IsUtf8}
use Rattle.serde_json.specs.Data.{Data, null, boolean, number, string, array, object, Members, no_members, member}
use Rattle.serde_json.specs.Find.{get}
use Rattle.serde_json.specs.Read.{read}
use Rattle.rt_language.specs.Syntax.{Source}
use Rattle.rt_model.specs.Replay.{Entry}
use Rattle.lang_sources.specs.Describes.{IsSource}
use Rattle.lang_sources.specs.declared.reading.TheConstants.{SOURCE_LIMIT}
use Rattle.show_logs.specs.Written.{WritesLog}

-- the members of an object but for the one at a key
abbrev pub without : List ℕ → Members → Members
without key no_members = no_members
without key (member l d rest) = cond (is_eq (slice_cmp nat_cmp key l)) rest (member l d (without key rest))

-- a value without its log
abbrev pub without_log : Data → Data
without_log null = null
without_log (boolean b) = boolean b
without_log (number n) = number n
without_log (string s) = string s
without_log (array items) = array items
without_log (object members) = object (without (codes "log") members)

-- a value has a log at its key
pub record HasLog (value : Data) (log : List (List Entry)) : Type 0 where
  pub at_key : Data
  pub found : get (codes "log") value ≡ Some at_key
  pub log_is : WritesLog at_key log

-- a value is a recorded run: a source with a log beside it, one list for the build and one for each input
pub record IsRecorded (value : Data) (source : Source) (log : List (List Entry)) : Type 0 where
  pub source_is : IsSource (without_log value) source
  pub has_log : HasLog value log
  pub one_each : length log ≡ length source.inputs + 1

-- the bytes are JSON in the form of a recorded run, which says this
pub record DescribesRun (bytes : List ℕ) (source : Source) (log : List (List Entry)) : Type 0 where
  pub size : length bytes ≤ SOURCE_LIMIT
  pub text : IsUtf8 bytes
  -- the value that the text is in JSON
  pub value : Data
  pub json : read bytes ≡ Some value
  pub form : IsRecorded value source log
