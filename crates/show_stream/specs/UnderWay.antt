-- An application that is given line by line, under way: what holds of it, and of what it puts next.
use Rattle.std.specs.Prelude.{◌≡◌, ◌⊎◌, ℕ, ◌+◌, ◌<◌, List, [], ◌∷◌, ◌++◌, length, map, Option, Some, Result, Ok, Err}
use Rattle.lang_script.specs.Applications.{meaning_of_script}
use Rattle.law_minding.specs.Sessions.{MemosKept}
use Rattle.lang_sources.specs.Describes.{Describes}
use Rattle.rt_edits.specs.declared.edit.Edit.{Edit}
use Rattle.rt_language.specs.Expressions.{Minding}
use Rattle.rt_language.specs.Formulas.{formulas}
use Rattle.rt_language.specs.Meaning.{inputs_of, meaning_of, props_of}
use Rattle.rt_language.specs.Syntax.{InputSource, Source}
use Rattle.rt_model.specs.Lists.{Text}
use Rattle.run_ongoing.specs.Ongoings.{AwaitsMore, number_of}
use Rattle.run_outside.specs.Sessions.{Headlined}
use Rattle.run_reports.specs.Seen.{limits_of, report_of, usual}
use Rattle.run_reports.specs.declared.report.Report.{Report}
use Rattle.show_answers.specs.Streamed.{AreAnswered, streamed}
use Rattle.show_answers.specs.Told.{Form}
use Rattle.show_stream.specs.Streams.{EachSays, IsFaulted, IsStreamedPart, IsStreamedFault, IsTold, inputs_in, marks_of, own_asked}
use Rattle.show_stream.specs.declared.streaming.Streaming.{Streaming}
use Rattle.show_streams.specs.Writes.{AddsFront, Puts, grown}
use Rattle.show_words.specs.Asked.{SaysNone}
use Rattle.show_words.specs.declared.reason.Stop.{Stop}
use Rattle.show_words.specs.declared.reason.Stop.TheVariants as stops
use Rattle.tree_edits.specs.Documents.{edit_of}

-- whichever session of a source it has under way, the headline holds of its reports, and its memos and resources are kept
abbrev pub Holds : Streaming → Type 0
Holds s =
    (source : Source) (asked : List (Option InputSource)) (now : Option (List Edit)) (reports : List Report)
    → AwaitsMore (λ script. meaning_of_script script) (meaning_of source) usual (props_of source) (inputs_of (inputs_in asked)) (Some []) now
    reports s.session
    → Headlined (meaning_of source) (props_of source) (inputs_of (inputs_in asked)) (limits_of usual) (Some []) now (map report_of reports)
    × MemosKept formulas (meaning_of source) Minding (props_of source) (inputs_of (inputs_in asked)) (limits_of usual) (map report_of reports)

-- it was asked this and put this text, and awaits what comes next
pub record IsAt (form : Form) (source : Source) (asked : List (Option InputSource)) (text : List Text) (s : Streaming) : Type 0 where
  pub wrote : List Edit
  pub reports : List Report
  pub awaits :
      AwaitsMore (λ script. meaning_of_script script) (meaning_of source) usual (props_of source) (inputs_of (inputs_in asked)) (Some [])
      (Some wrote) reports s.session
  pub answered : AreAnswered (marks_of asked) (map edit_of wrote) (map report_of reports)
  pub counted : length reports ≡ number_of s.session + 1
  pub printed : text ≡ streamed form (marks_of asked) 0 (map edit_of wrote) (map report_of reports)

-- it read these lines and put this text
pub record IsUnderWay (form : Form) (first : List ℕ) (lines : List (List ℕ)) (text : List Text) (s : Streaming) : Type 0 where
  pub source : Source
  pub described : Describes first source
  pub said : List (Option InputSource)
  pub says : EachSays lines said
  pub at : IsAt form source (own_asked source ++ said) text s

-- what is put next goes behind a text: the texts that may then stand there, for one of which the put was, and what came through of it
pub record PutsBehind (Is : List Text → Type 0) (text : List Text) (old new : Puts) : Type 0 where
  pub own : List Text
  pub is : Is (text ++ own)
  pub put : new ≡ grown old own

-- the same, where a front of that came through
pub record PutsPart (Is : List Text → Type 0) (text : List Text) (old new : Puts) : Type 0 where
  pub own : List Text
  pub is : Is (text ++ own)
  pub front : AddsFront old new own

-- a front of what is asked
pub record IsAmong (whole : List (Option InputSource)) (Is : List (Option InputSource) → List Text → Type 0) (text : List Text)
    : Type 0 where
  pub asked : List (Option InputSource)
  pub rest : List (Option InputSource)
  pub among : asked ++ rest ≡ whole
  pub is : Is asked text

-- it stopped there: at a fault, whose line was put; where the out failed; or for want of memory
abbrev pub StopsAt :
    (IsFault IsPart : List Text → Type 0) (text : List Text) (old new : Puts) (before now : ℕ) → Stop → Type 0
StopsAt IsFault IsPart text old new before now stops.Fault = PutsBehind IsFault text old new
StopsAt IsFault IsPart text old new before now stops.Out = (before < now) × PutsPart IsPart text old new
StopsAt IsFault IsPart text old new before now stops.OutOfMemory = PutsPart IsPart text old new
StopsAt IsFault IsPart text old new before now stops.Words = ⊥
StopsAt IsFault IsPart text old new before now stops.Form = ⊥
StopsAt IsFault IsPart text old new before now stops.Source = ⊥

-- so it is of a source that was to be asked all this
abbrev pub StopsAmong : (form : Form) →
    Source → (whole : List (Option InputSource)) (text : List Text) (old new : Puts) (before now : ℕ) → Stop → Type 0
StopsAmong form source whole text old new before now stop =
    StopsAt (IsAmong whole (λ asked own. IsFaulted form source asked own))
    (IsAmong whole (λ asked own. IsTold form source asked own ⊎ IsFaulted form source asked own)) text old new before now stop

-- what was asked more was taken in, by what is answered
abbrev pub TakesAll : (form : Form) →
    Source → (asked more : List (Option InputSource)) (text : List Text) (old new : Puts) (before now : ℕ) → Streaming
    → Result (Unit {0}) Stop → Type 0
TakesAll form source asked more text old new before now s (Ok u) = PutsBehind (λ own. IsAt form source (asked ++ more) own s) text old new
TakesAll form source asked more text old new before now s (Err stop) = StopsAmong form source (asked ++ more) text old new before now stop

-- it was built; where memory was wanting before that nothing was put
abbrev pub BuiltAs : (form : Form) →
    Source → (whole : List (Option InputSource)) (old new : Puts) (before now : ℕ) → Result Streaming Stop → Type 0
BuiltAs form source whole old new before now (Ok s) = PutsBehind (λ own. IsAt form source whole own s) [] old new
BuiltAs form source whole old new before now (Err stops.OutOfMemory) =
    (new ≡ old) ⊎ StopsAmong form source whole [] old new before now stops.OutOfMemory
BuiltAs form source whole old new before now (Err stops.Fault) = StopsAmong form source whole [] old new before now stops.Fault
BuiltAs form source whole old new before now (Err stops.Out) = StopsAmong form source whole [] old new before now stops.Out
BuiltAs form source whole old new before now (Err stops.Words) = ⊥
BuiltAs form source whole old new before now (Err stops.Form) = ⊥
BuiltAs form source whole old new before now (Err stops.Source) = ⊥

-- it was built, and no input was taken in yet
abbrev pub Builds : (form : Form) → Source → (old new : Puts) (before now : ℕ) → Result Streaming Stop → Type 0
Builds form source old new before now result = BuiltAs form source [] old new before now result

-- with the inputs that stand in the source
abbrev pub Begins : (form : Form) → Source → (old new : Puts) (before now : ℕ) → Result Streaming Stop → Type 0
Begins form source old new before now result = BuiltAs form source (own_asked source) old new before now result

-- a first line, by what is answered
abbrev pub Opens : (form : Form) → List ℕ → (old new : Puts) (before now : ℕ) → Result Streaming Stop → Type 0
Opens form first old new before now (Ok s) = PutsBehind (λ own. IsUnderWay form first [] own s) [] old new
Opens form first old new before now (Err stops.Form) = SaysNone first × (new ≡ old)
Opens form first old new before now (Err stops.Fault) = PutsBehind (λ own. IsStreamedFault form first [] own) [] old new
Opens form first old new before now (Err stops.Out) = (before < now) × PutsPart (λ own. IsStreamedPart form first [] own) [] old new
Opens form first old new before now (Err stops.OutOfMemory) = (new ≡ old) ⊎ PutsPart (λ own. IsStreamedPart form first [] own) [] old new
Opens form first old new before now (Err stops.Words) = ⊥
Opens form first old new before now (Err stops.Source) = ⊥

-- a further line, by what is answered
abbrev pub Answers : (form : Form) →
    (first : List ℕ) (lines : List (List ℕ)) (bytes : List ℕ) (text : List Text) (old new : Puts) (before now : ℕ) → Streaming
    → Result (Unit {0}) Stop → Type 0
Answers form first lines bytes text old new before now s (Ok u) =
    PutsBehind (λ own. IsUnderWay form first (lines ++ bytes ∷ []) own s) text old new
Answers form first lines bytes text old new before now s (Err stop) =
    StopsAt
    (λ own. IsStreamedFault form first (lines ++ bytes ∷ []) own) (λ own. IsStreamedPart form first (lines ++ bytes ∷ []) own)
    text old new before now stop
