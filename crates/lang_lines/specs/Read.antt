-- What sessions print of sources that are read: plain edits, so that a text tells its session.
use Rattle.std.specs.Prelude.{ℕ, ◌^◌, ◌<◌, ◌≡◌, List, Some, length}
use Rattle.std.specs.List.{AllByRecursion}
use Rattle.rt_model.specs.Document.{Edit}
use Rattle.rt_model.specs.State.{Fault}
use Rattle.rt_model.specs.Causes.{Limits}
use Rattle.rt_model.specs.Reports.{Report}
use Rattle.rt_model.specs.Headline.{Headline, CameTo}
use Rattle.rt_language.specs.Syntax.{Source}
use Rattle.rt_language.specs.Meaning.{meaning_of, props_of, inputs_of}
use Rattle.rt_language.specs.Lines.{text_of, fault_text_of}
use Rattle.lang_sources.specs.Describes.{Describes}
use Rattle.lang_lines.specs.Told.{IsSmall}
use Rattle.lang_lines.specs.Plain.{IsPlainEdit, IsSmallFault}
use Rattle.lang_lines.specs.Runs.{AllAlike}
use Rattle.lang_lines.specs.Named.{NamedSource}

-- every source that bytes describe has names
abbrev pub DescribedHaveNames : Type 0
DescribedHaveNames = (bytes : List ℕ) (s : Source) → Describes bytes s → NamedSource s

-- reports whose numbers, and the numbers of the reports, have at most 64 bits
pub record AreSmall (reports : List Report) : Type 0 where
  pub reported : AllByRecursion IsSmall reports
  pub few : length reports < 2 ^ 64

-- edits and reports of a session that was done
pub record IsDone (edits : List Edit) (reports : List Report) : Type 0 where
  -- of a source that these bytes describe, within these limits
  pub bytes : List ℕ
  pub said : Source
  pub described : Describes bytes said
  pub limits : Limits
  pub headline : Headline (meaning_of said) (props_of said) (inputs_of said.inputs) limits (Some edits) reports
  pub small : AreSmall reports

-- edits and reports of a session that came to a fault
pub record IsEnded (edits : List Edit) (reports : List Report) (fault : Fault) : Type 0 where
  -- of a source that these bytes describe, within these limits
  pub bytes : List ℕ
  pub said : Source
  pub described : Describes bytes said
  pub limits : Limits
  pub came_to : CameTo (meaning_of said) (props_of said) (inputs_of said.inputs) limits (Some edits) reports fault
  pub small : AreSmall reports
  pub small_fault : IsSmallFault fault

-- the edits of sessions of sources that are read are plain
abbrev pub DescribedWritePlainly : Type 0
DescribedWritePlainly =
    (bytes : List ℕ) (s : Source) (limits : Limits) (edits : List Edit) (reports : List Report) → Describes bytes s
    → (Headline (meaning_of s) (props_of s) (inputs_of s.inputs) limits (Some edits) reports
    → AllByRecursion (λ (e : Edit). IsPlainEdit e) edits)
    × ((fault : Fault) → CameTo (meaning_of s) (props_of s) (inputs_of s.inputs) limits (Some edits) reports fault
    → AllByRecursion (λ (e : Edit). IsPlainEdit e) edits)

-- the text of a session that was done tells its edits and its reports
abbrev pub DoneTell : Type 0
DoneTell =
    (edits more : List Edit) (reports others : List Report) → IsDone edits reports → IsDone more others
    → text_of edits reports ≡ text_of more others
    → (edits ≡ more) × AllAlike reports others

-- the text of a session that came to a fault tells them, and the fault
abbrev pub EndedTell : Type 0
EndedTell =
    (edits more : List Edit) (reports others : List Report) (a b : Fault) → IsEnded edits reports a → IsEnded more others b
    → fault_text_of edits reports a ≡ fault_text_of more others b
    → (edits ≡ more) × AllAlike reports others × (a ≡ b)

-- no text of the one sort is one of the other
abbrev pub SortsTell : Type 0
SortsTell =
    (edits more : List Edit) (reports others : List Report) (b : Fault) → IsDone edits reports → IsEnded more others b
    → text_of edits reports ≡ fault_text_of more others b
    → ⊥
