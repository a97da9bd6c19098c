-- What is printed of a recorded run: the verdict on it.
use Rattle.std.specs.Prelude.{◌≡◌, ℕ, List, [], ◌∷◌, ◌++◌, codes, decimal, Option, Some}
use Rattle.rt_language.specs.Meaning.{meaning_of, props_of, inputs_of}
use Rattle.rt_language.specs.Lines.{line}
use Rattle.rt_language.specs.Syntax.{Source}
use Rattle.rt_model.specs.Replay.{Entry}
use Rattle.show_streams.specs.Reads.{IsWhole}
use Rattle.lang_rows.specs.Verdicts.{Verdict, Accepted, Refused, verdict}
use Rattle.show_logs.specs.Recorded.{DescribesRun}
use Rattle.show_words.specs.Asked.{Asked}

-- the words of a verdict
abbrev pub verdict_text : Verdict → List ℕ
verdict_text Accepted = codes "accepted"
verdict_text (Refused report entry) = codes "refused " ++ (decimal report ++ (codes " " ++ decimal entry))

-- the verdict on a log, for the application, the props and the inputs of its source
unfoldable pub verdict_on : Asked → Verdict
verdict_on said = verdict (meaning_of said.source) (props_of said.source) (inputs_of said.source.inputs) said.log

-- a text is the line of the verdict
abbrev pub IsVerdictText : Asked → List (List ℕ) → Type 0
IsVerdictText said text = text ≡ line (verdict_text (verdict_on said)) ∷ []

-- an input was read to its end, and its bytes describe a recorded run
pub record RecordedBy (said : Asked) (left after : Option (List ℕ)) : Type 0 where
  pub bytes : List ℕ
  pub whole : IsWhole bytes left after
  pub described : DescribesRun bytes said.source said.log

-- the input is told, and it describes a recorded run
pub record RecordedInput (left : Option (List ℕ)) : Type 0 where
  pub bytes : List ℕ
  pub told : left ≡ Some bytes
  pub source : Source
  pub log : List (List Entry)
  pub described : DescribesRun bytes source log
