-- What is printed of a screen: report by report the rows that are other than before.
use Rattle.std.specs.Prelude.{◌≡◌, ℕ, ◌+◌, List, [], ◌∷◌, ◌++◌, map, Some}
use Rattle.rt_model.specs.Tree.{Types}
use Rattle.rt_model.specs.Document.{Forest, Edit}
use Rattle.rt_model.specs.State.{Fault}
use Rattle.rt_model.specs.View.{view}
use Rattle.rt_model.specs.Told.{Told}
use Rattle.rt_model.specs.Reports.{Report}
use Rattle.rt_model.specs.Headline.{Headline, CameTo}
use Rattle.rt_language.specs.Lines.{line, fault_text}
use Rattle.rt_language.specs.Meaning.{meaning_of, props_of, inputs_of}
use Rattle.rt_language.specs.Syntax.{Source}
use Rattle.run_reports.specs.Seen.{limits_of, usual}
use Rattle.run_reports.specs.declared.limits.Limits.{Limits}
use Rattle.rt_text.specs.Layout.{fitted, layout}
use Rattle.rt_text.specs.Printed.{picture}
use Rattle.show_words.specs.Kept.{KeepsMemos}
use Rattle.show_words.specs.declared.words.Size.{Size}

-- the lines of reports from the one with this number on, by the rows before it and what shows after each: the rows become the layout of what
-- shows, and those that are other than before are told
abbrev pub pictures : (width height number : ℕ) → List (List ℕ) → List Forest → List (List ℕ)
pictures width height number rows [] = []
pictures width height number rows (shown ∷ later) =
    picture number rows (layout width height shown) ++ pictures width height (number + 1) (layout width height shown) later

-- the text of a screen of a size, empty at first, by what shows after each report
abbrev pub screen_text : Size → List Forest → List (List ℕ)
screen_text size shown = pictures size.width size.height 0 (fitted size.height []) shown

module _ {K : Types} where
  -- what shows after each report
  abbrev pub views_of : List (Told K) → List Forest
  views_of told = map (λ (t : Told K). view t.machine.state) told

-- a source has the headline within these limits with these reports and edits, and after each report this shows
unfoldable pub HasViews : Limits → Source → List Edit → List Report → List Forest → Type 0
HasViews limits said edits reports shown =
    (held : Headline (meaning_of said) (props_of said) (inputs_of said.inputs) (limits_of limits) (Some edits) reports)
    × (shown ≡ views_of held.told)

-- the same of the reports that were finished before a fault
unfoldable pub HasViewsBefore : Limits → Source → List Edit → List Report → Fault → List Forest → Type 0
HasViewsBefore limits said edits reports fault shown =
    (came : CameTo (meaning_of said) (props_of said) (inputs_of said.inputs) (limits_of limits) (Some edits) reports fault)
    × (shown ≡ views_of came.told)

-- the text of a run that was done on a screen
pub record IsScreenText (size : Size) (said : Source) (text : List (List ℕ)) : Type 0 where
  pub edits : List Edit
  pub reports : List Report
  pub shown : List Forest
  -- they are those of a session of the source
  pub headline : HasViews usual said edits reports shown
  pub memos : KeepsMemos usual said reports
  pub printed : text ≡ screen_text size shown

-- the text of a run that a fault ended: that of the finished reports, and the line of the fault
pub record IsEndedScreenText (size : Size) (said : Source) (text : List (List ℕ)) : Type 0 where
  pub edits : List Edit
  pub reports : List Report
  pub fault : Fault
  pub shown : List Forest
  -- they are those of a session of the source, which came to the fault
  pub headline : HasViewsBefore usual said edits reports fault shown
  pub printed : text ≡ screen_text size shown ++ line (fault_text fault) ∷ []
