-- What is written of an application that is given line by line: the text of a session, of which the headline holds.
use Rattle.std.specs.Prelude.{◌≡◌, ◌⊎◌, ℕ, Bool, true, List, [], ◌∷◌, ◌++◌, map, Option, Some, None, is_some}
use Rattle.law_minding.specs.Sessions.{MemosKept}
use Rattle.rt_language.specs.Expressions.{Minding}
use Rattle.rt_language.specs.Formulas.{formulas}
use Rattle.rt_language.specs.Meaning.{inputs_of, meaning_of, props_of}
use Rattle.rt_language.specs.Syntax.{InputSource, Source}
use Rattle.rt_model.specs.Document.{Edit}
use Rattle.rt_model.specs.Headline.{CameTo, Headline}
use Rattle.rt_model.specs.Lists.{Text}
use Rattle.rt_model.specs.Reports.{Report}
use Rattle.rt_model.specs.State.{Fault}
use Rattle.run_reports.specs.Seen.{limits_of, usual}
use Rattle.lang_inputs.specs.Describes.{DescribesInput}
use Rattle.lang_sources.specs.Describes.{Describes}
use Rattle.show_answers.specs.Streamed.{AreAnswered, edit_lines_in, streamed}
use Rattle.show_answers.specs.Told.{Form, ToldFault}

-- what a line says: an input, or none
abbrev pub Says : List ℕ → Option InputSource → Type 0
Says bytes None = (input : InputSource) → DescribesInput bytes input → ⊥
Says bytes (Some input) = DescribesInput bytes input

-- the same of each line
abbrev pub EachSays : List (List ℕ) → List (Option InputSource) → Type 0
EachSays [] [] = Unit {0}
EachSays [] (said ∷ asked) = ⊥
EachSays (bytes ∷ lines) [] = ⊥
EachSays (bytes ∷ lines) (said ∷ asked) = Says bytes said × EachSays lines asked

-- the inputs among what was asked, in order
abbrev pub inputs_in : List (Option InputSource) → List InputSource
inputs_in [] = []
inputs_in (None ∷ asked) = inputs_in asked
inputs_in (Some input ∷ asked) = input ∷ inputs_in asked

-- the inputs that stand in a source, as what is asked first
abbrev pub own_asked : Source → List (Option InputSource)
own_asked source = map Some source.inputs

-- whether the build and each that was asked has a report
abbrev pub marks_of : List (Option InputSource) → List Bool
marks_of asked = true ∷ map (λ said. is_some said) asked

-- a text is that of a session of a source with these inputs, of which the headline holds, and whose memos and resources are kept: report by
-- report its edits and its line, and a refusal where no input was asked
pub record IsTold (form : Form) (source : Source) (asked : List (Option InputSource)) (text : List Text) : Type 0 where
  pub edits : List Edit
  pub reports : List Report
  pub headline : Headline (meaning_of source) (props_of source) (inputs_of (inputs_in asked)) (limits_of usual) (Some edits) reports
  -- each poll of a memo or of a resource is that of the definitions, and one that nobody else touches is kept after each report
  pub memos : MemosKept formulas (meaning_of source) Minding (props_of source) (inputs_of (inputs_in asked)) (limits_of usual) reports
  pub printed : text ≡ streamed form (marks_of asked) 0 edits reports

-- the same of a session that came to a fault at the last that was asked, or in the build: behind the answers to those before it stand the
-- edits up to the refusal, and the line of the fault
pub record IsFaulted (form : Form) (source : Source) (asked : List (Option InputSource)) (text : List Text) : Type 0 where
  -- whether each of those before it has a report
  pub finished : List Bool
  pub last : marks_of asked ≡ finished ++ true ∷ []
  -- the edits of their reports, and those up to the refusal
  pub edits : List Edit
  pub more : List Edit
  pub reports : List Report
  pub fault : Fault
  pub came_to :
      CameTo (meaning_of source) (props_of source) (inputs_of (inputs_in asked)) (limits_of usual) (Some (edits ++ more)) reports fault
  pub answered : AreAnswered finished edits reports
  pub printed : text ≡ streamed form finished 0 edits reports ++ (edit_lines_in form more ++ form (ToldFault fault) ∷ [])

-- the text so far of an application that its first line describes, with the inputs that stand in it, and then those that these lines say
pub record IsStreamed (form : Form) (first : List ℕ) (lines : List (List ℕ)) (text : List Text) : Type 0 where
  pub source : Source
  pub described : Describes first source
  -- what each line says
  pub said : List (Option InputSource)
  pub says : EachSays lines said
  pub told : IsTold form source (own_asked source ++ said) text

-- what the first of some lines say, one by one
abbrev pub SaysFront : List (List ℕ) → List (Option InputSource) → Type 0
SaysFront lines [] = Unit {0}
SaysFront [] (said ∷ asked) = ⊥
SaysFront (bytes ∷ lines) (said ∷ asked) = Says bytes said × SaysFront lines asked

-- the whole text where the session came to a fault: at what the last of these lines says, or before that in the build or at an input that
-- stands in the source
pub record IsStreamedFault (form : Form) (first : List ℕ) (lines : List (List ℕ)) (text : List Text) : Type 0 where
  pub source : Source
  pub described : Describes first source
  pub said : List (Option InputSource)
  pub says : EachSays lines said
  -- what was asked up to there, and what else there is
  pub asked : List (Option InputSource)
  pub rest : List (Option InputSource)
  pub among : asked ++ rest ≡ own_asked source ++ said
  pub faulted : IsFaulted form source asked text

-- the text of all that was asked, or of a front of it, which may end in a fault
pub record IsStreamedPart (form : Form) (first : List ℕ) (lines : List (List ℕ)) (text : List Text) : Type 0 where
  pub source : Source
  pub described : Describes first source
  pub said : List (Option InputSource)
  pub says : SaysFront lines said
  pub asked : List (Option InputSource)
  pub rest : List (Option InputSource)
  pub among : asked ++ rest ≡ own_asked source ++ said
  pub told : IsTold form source asked text ⊎ IsFaulted form source asked text
