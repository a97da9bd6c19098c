-- What the program is given, what it prints of it, and how a run of it comes out.
use Rattle.std.specs.Prelude.{◌≡◌, ◌⊎◌, ℕ, ◌<◌, List, [], ◌∷◌, ◌++◌, Option, Some, None, Result, Ok, Err}
use Rattle.show_streams.specs.Reads.{Advances, IsWhole, IsLonger}
use Rattle.show_streams.specs.declared.reading.TheConstants.{MOST_BYTES}
use Rattle.show_streams.specs.Writes.{grown, AddsFront, Puts}
use Rattle.rt_model.specs.Document.{Edit}
use Rattle.rt_model.specs.State.{Fault}
use Rattle.rt_model.specs.Reports.{Report}
use Rattle.rt_model.specs.Causes.{IsValid}
use Rattle.rt_model.specs.Headline.{Headline, CameTo}
use Rattle.rt_language.specs.Syntax.{Source}
use Rattle.rt_language.specs.Meaning.{meaning_of, props_of, inputs_of}
use Rattle.rt_language.specs.Lines.{line, fault_text}
use Rattle.rt_language.specs.Generated.{generated, summary_line}
use Rattle.run_reports.specs.Seen.{limits_of, usual}
use Rattle.run_reports.specs.declared.limits.Limits.{Limits}
use Rattle.lang_sources.specs.Describes.{Describes}
use Rattle.lang_sources.specs.declared.reading.TheConstants.{SOURCE_LIMIT}
use Rattle.show_words.specs.Asked.{Asked, SaysNone}
use Rattle.show_words.specs.Kept.{KeepsMemos}
use Rattle.show_words.specs.Judged.{IsVerdictText, RecordedBy, RecordedInput}
use Rattle.show_words.specs.Pictures.{IsScreenText, IsEndedScreenText}
use Rattle.show_words.specs.Texts.{run_lines}
use Rattle.show_words.specs.declared.words.Wish.{Wish}
use Rattle.show_words.specs.declared.words.Wish.TheVariants.{Run, Make, Screen, Audit}
use Rattle.show_words.specs.declared.reason.Stop.{Stop}
use Rattle.show_words.specs.declared.reason.Stop.TheVariants as stops

-- an input was read to its end, and its bytes describe a source
pub record DescribedBy (said : Source) (left after : Option (List ℕ)) : Type 0 where
  pub bytes : List ℕ
  pub whole : IsWhole bytes left after
  pub described : Describes bytes said

-- an input was read to its end, and its bytes describe nothing that is asked for
pub record DescribesNone (Lack : List ℕ → Type 0) (left after : Option (List ℕ)) : Type 0 where
  pub bytes : List ℕ
  pub whole : IsWhole bytes left after
  pub none : Lack bytes

-- an input is too long, or describes nothing that is asked for
abbrev pub IsUnfit : (List ℕ → Type 0) → Option (List ℕ) → Option (List ℕ) → Type 0
IsUnfit Lack left after = IsLonger SOURCE_LIMIT left ⊎ DescribesNone Lack left after

-- an input is too long, or describes no source
abbrev pub IsRefused : Option (List ℕ) → Option (List ℕ) → Type 0
IsRefused left after = IsUnfit SaysNone left after

-- which source is run, and which log is judged: those that the input describes, or the source of so many rows, for which no input is
-- read
abbrev pub Chooses : Wish → Asked → (left after : Option (List ℕ)) → Type 0
Chooses (Run limits) said left after = DescribedBy said.source left after
Chooses (Make rows) said left after = (said.source ≡ generated rows) × (after ≡ left)
Chooses (Screen size) said left after = DescribedBy said.source left after
Chooses Audit said left after = RecordedBy said left after

-- a source has the headline within these limits with these reports and edits, where those are told: replay accepts the logs, the edits never
-- fault and give what shows after each report, and there every output is current, and fallbacks show just while they are held
unfoldable pub HasHeadline : Limits → Source → Option (List Edit) → List Report → Type 0
HasHeadline limits said taken reports =
    Headline (meaning_of said) (props_of said) (inputs_of said.inputs) (limits_of limits) taken reports

-- the same of the reports that were finished before a fault
unfoldable pub HasCome : Limits → Source → List Edit → List Report → Fault → Type 0
HasCome limits said edits reports fault =
    CameTo (meaning_of said) (props_of said) (inputs_of said.inputs) (limits_of limits) (Some edits) reports fault

-- the text of a run that was done, which is put line by line: lines of edits, and lines of reports, numbered from 0
pub record IsRunText (limits : Limits) (said : Source) (text : List (List ℕ)) : Type 0 where
  pub edits : List Edit
  pub reports : List Report
  -- they are those of a session of the source
  pub headline : HasHeadline limits said (Some edits) reports
  pub memos : KeepsMemos limits said reports
  pub printed : text ≡ run_lines edits reports

-- the text of a run that a fault ended: lines of edits and of finished reports, and the line of the fault
pub record IsFaultText (limits : Limits) (said : Source) (text : List (List ℕ)) : Type 0 where
  pub edits : List Edit
  pub reports : List Report
  pub fault : Fault
  -- they are those of a session of the source, which came to the fault
  pub headline : HasCome limits said edits reports fault
  pub printed : text ≡ run_lines edits reports ++ line (fault_text fault) ∷ []

-- the line that sums up the reports of a run of so many rows
pub record IsSummary (rows : ℕ) (said : Source) (text : List (List ℕ)) : Type 0 where
  pub reports : List Report
  -- they are those of a session of the source
  pub headline : HasHeadline usual said None reports
  pub memos : KeepsMemos usual said reports
  pub printed : text ≡ summary_line rows reports ∷ []

-- the text of what was done: what each wish says of a source and of bytes
abbrev pub IsDoneText : Wish → Asked → List (List ℕ) → Type 0
IsDoneText (Run limits) said text = IsRunText limits said.source text
IsDoneText (Make rows) said text = IsSummary rows said.source text
IsDoneText (Screen size) said text = IsScreenText size said.source text
IsDoneText Audit said text = IsVerdictText said text

-- the text of what a fault ended; a run that is only summed up, or that a log is held against, prints nothing then
abbrev pub IsEndedText : Wish → Asked → List (List ℕ) → Type 0
IsEndedText (Run limits) said text = IsFaultText limits said.source text
IsEndedText (Make rows) said text = ⊥
IsEndedText (Screen size) said text = IsEndedScreenText size said.source text
IsEndedText Audit said text = ⊥

-- what was written is a front of the text of a run
pub record PrintsFront (wish : Wish) (said : Asked) (old new : Puts) : Type 0 where
  pub text : List (List ℕ)
  pub run : IsDoneText wish said text ⊎ IsEndedText wish said text
  pub front : AddsFront old new text

-- what was written is this text of a run that was done
pub record PrintsDone (wish : Wish) (said : Asked) (old new : Puts) : Type 0 where
  pub text : List (List ℕ)
  pub run : IsDoneText wish said text
  pub written : new ≡ grown old text

-- what was written is this text of a run that a fault ended
pub record PrintsEnded (wish : Wish) (said : Asked) (old new : Puts) : Type 0 where
  pub text : List (List ℕ)
  pub run : IsEndedText wish said text
  pub written : new ≡ grown old text

-- no run of a source within these limits comes to a fault
unfoldable pub IsSafe : Limits → Source → Type 0
IsSafe limits said = IsValid (meaning_of said) (props_of said) (inputs_of said.inputs) (limits_of limits)

-- the input is told, it describes a source, and no run of what it describes comes to a fault
pub record SafeInput (limits : Limits) (left : Option (List ℕ)) : Type 0 where
  pub bytes : List ℕ
  pub told : left ≡ Some bytes
  pub said : Source
  pub described : Describes bytes said
  pub safe : (other : Source) → Describes bytes other → IsSafe limits other

-- what is asked for can be done with this input
abbrev pub CanBeDone : Wish → Option (List ℕ) → Type 0
CanBeDone (Run limits) left = SafeInput limits left
CanBeDone (Make rows) left = Unit {0}
CanBeDone (Screen size) left = SafeInput usual left
CanBeDone Audit left = RecordedInput left

-- what reading comes to, by what the bytes may lack, what is left of the input and its count of failures, before and after: where a read
-- failed, no more than the limit of bytes had come
abbrev pub ReadsFor : (List ℕ → Type 0) → (left after : Option (List ℕ)) → (before now : ℕ) → Stop → Type 0
ReadsFor Lack left after before now stops.Form = IsUnfit Lack left after
ReadsFor Lack left after before now stops.Source = (before < now) × Advances MOST_BYTES left after
ReadsFor Lack left after before now stops.OutOfMemory = Unit {0}
ReadsFor Lack left after before now stops.Words = ⊥
ReadsFor Lack left after before now stops.Fault = ⊥
ReadsFor Lack left after before now stops.Out = ⊥

-- what reading comes to where the bytes weren't had, whatever they would say
abbrev pub ReadsAny : (left after : Option (List ℕ)) → (before now : ℕ) → Stop → Type 0
ReadsAny left after before now stop = ReadsFor (λ bytes. ⊥) left after before now stop

-- what reading a source comes to
abbrev pub Reads : (left after : Option (List ℕ)) → (before now : ℕ) → Stop → Type 0
Reads left after before now stop = ReadsFor SaysNone left after before now stop

-- what a run comes to, by what is written and the out's count of failures, before and after
abbrev pub Prints : Wish → Asked → (old new : Puts) → (before now : ℕ) → Result (Unit {0}) Stop → Type 0
Prints wish said old new before now (Ok u) = PrintsDone wish said old new
Prints wish said old new before now (Err stops.Fault) = PrintsEnded wish said old new
Prints wish said old new before now (Err stops.Out) = (before < now) × PrintsFront wish said old new
Prints wish said old new before now (Err stops.OutOfMemory) = (new ≡ old) ⊎ PrintsFront wish said old new
Prints wish said old new before now (Err stops.Words) = ⊥
Prints wish said old new before now (Err stops.Form) = ⊥
Prints wish said old new before now (Err stops.Source) = ⊥
