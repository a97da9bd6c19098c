-- What shows after each report of a session, and that its edits, cut by the reports' counts, make it show.
use Rattle.std.proofs.Common.{◌≡◌, ◌≤◌, ◌+◌, ℕ, List, [], ◌∷◌, ◌++◌, length, map, take, drop, Option, Some, refl, sym, ap, ◌∙◌, subst, arith, take-append-drop}
use Rattle.std.specs.Prelude.{option_map}
use Rattle.std.proofs.Math.Seq.{take-append_seam, drop-append_seam}
use Rattle.std.proofs.lemmas.List.{length-map, length-append, take-map, drop-map, take-append-le, drop-append-le}
use Rattle.rt_edits.specs.declared.doc_node.DocNode.{DocNode}
use Rattle.rt_edits.specs.declared.edit.Edit.{Edit}
use Rattle.tree_edits.specs.Documents.{edit_of, forest_of}
use Rattle.tree_documents.specs.Cuts.{LeadsTo, ShowsEach}
use Rattle.tree_documents.proofs.Cut.{reports_show}
use Rattle.rt_model.specs.Document as documents
use Rattle.rt_model.specs.Document.{Forest}
use Rattle.rt_model.specs.Headline.{Headline, CameTo}
use Rattle.rt_model.specs.Lists.{joined}
use Rattle.rt_model.specs.Reports.{Report, AllCount}
use Rattle.rt_model.specs.State as model
use Rattle.rt_model.specs.Told.{Told, edits_of}
use Rattle.rt_model.specs.Tree.{Types}
use Rattle.rt_language.specs.Expressions.{SourceTypes}
use Rattle.rt_language.specs.Lines.{line, fault_text}
use Rattle.rt_language.specs.Meaning.{meaning_of, props_of, inputs_of}
use Rattle.rt_language.specs.Syntax.{Source}
use Rattle.run_outside.specs.Sessions.{Headlined, CameAt}
use Rattle.run_reports.specs.Seen.{fault_of, limits_of, report_of, usual}
use Rattle.run_reports.specs.declared.limits.Limits.{Limits}
use Rattle.run_reports.specs.declared.report.Report as code
use Rattle.run_reports.specs.declared.fault.SessionFault.{SessionFault}
use Rattle.show_words.specs.Kept.{KeepsMemos}
use Rattle.show_words.specs.Pictures.{HasViews, HasViewsBefore, IsScreenText, IsEndedScreenText, screen_text, views_of}
use Rattle.show_screens.specs.Drawing.{LeadAlong, ShowInTurn}
use Rattle.show_words.specs.Runs.{HasHeadline, HasCome}
use Rattle.show_words.specs.declared.words.Size.{Size}
use Rattle.show_runs.proofs.Runs.{headline_of, came_to}
use Rattle.show_words.proofs.Preparing.{named}

-- the first edits of those that were taken
front_of : (edits : List Edit) (first more : List documents.Edit) → map edit_of edits ≡ first ++ more → map edit_of (take (length first) edits) ≡ first
front_of edits first more same = sym (take-map edit_of (length first) edits) ∙ ap (take (length first)) same ∙ take-append_seam first more

-- edits that make each report show lead from document to document
module _ {K : Types} where
  along : (reports : List Report) (told : List (Told K)) (edits : List Edit) (nodes : List DocNode) → AllCount reports told → ShowsEach reports edits told nodes
      → (made : List (List DocNode)) × LeadAlong reports edits nodes made × (map forest_of made ≡ views_of told)
  along [] [] edits nodes counted shows = ([], tt, refl)
  along [] (t ∷ ts) edits nodes counted shows = absurd counted
  along (report ∷ reports) [] edits nodes counted shows = absurd counted
  along (report ∷ reports) (t ∷ ts) edits nodes counted shows =
      let rest = along reports ts (drop report.edits edits) shows.0 counted.1 shows.3 in
      (shows.0 ∷ rest.0, (shows.1, rest.1), λ i. shows.2 i ∷ rest.2 i)

  -- further edits behind those of the reports change nothing
  with_more : (reports : List Report) (told : List (Told K)) (front more : List Edit) (nodes : List DocNode) (made : List (List DocNode)) → AllCount reports told
      → map edit_of front ≡ joined (edits_of told) → LeadAlong reports front nodes made → LeadAlong reports (front ++ more) nodes made
  with_more [] told front more nodes [] counted same led = tt
  with_more [] told front more nodes (next ∷ made) counted same led = absurd led
  with_more (report ∷ reports) told front more nodes [] counted same led = absurd led
  with_more (report ∷ reports) [] front more nodes (next ∷ made) counted same led = absurd counted
  with_more (report ∷ reports) (t ∷ ts) front more nodes (next ∷ made) counted same led =
      let count : report.edits ≡ length t.edits = (counted.0).edits in
      let sum : length front ≡ length t.edits + length (joined (edits_of ts)) =
      sym (length-map front edit_of) ∙ ap length same ∙ length-append t.edits (joined (edits_of ts)) in
      let within : report.edits ≤ length front = omega (arith, count, sum) in
      let later : map edit_of (drop report.edits front) ≡ joined (edits_of ts) =
      sym (drop-map edit_of report.edits front) ∙ ap (drop report.edits) same ∙ ap (λ (n : ℕ). drop n (t.edits ++ joined (edits_of ts))) count
      ∙ drop-append_seam t.edits (joined (edits_of ts)) in
      let rest : LeadAlong reports (drop report.edits front ++ more) next made =
      with_more reports ts (drop report.edits front) more next made counted.1 later led.1 in (
        subst (λ (es : List Edit). LeadsTo es nodes next) (sym (take-append-le report.edits front more within)) led.0,
        subst (λ (es : List Edit). LeadAlong reports es next made) (sym (drop-append-le report.edits front more within)) rest,
      )

-- a session with the headline shows this after each report, and its edits make it show
pub views : (said : Source) (old new : Option (List Edit)) (edits : List Edit) (reports shown : List code.Report)
    → old ≡ Some [] → new ≡ Some edits → shown ≡ reports
    → Headlined (meaning_of said) (props_of said) (inputs_of said.inputs) (limits_of usual) old new (map report_of reports)
    → (seen : List Forest) × HasViews usual said (map edit_of edits) (map report_of shown) seen × ShowInTurn edits (map report_of shown) seen
unfolding HasHeadline HasViews
views said old new edits reports shown began tells same headlined =
    let held : Headline (meaning_of said) (props_of said) (inputs_of said.inputs) (limits_of usual) (Some (map edit_of edits)) (map report_of shown) =
    headline_of usual said old new edits reports shown began tells same headlined in
    let each = reports_show {K = SourceTypes} (map report_of shown) held.told edits ((held.holds).recorded).counted (held.holds).shown (held.done).edits in
    let led = along (map report_of shown) held.told edits [] ((held.holds).recorded).counted each in
    (views_of held.told, (held, refl), record { documents = led.0; led = led.1; are = led.2 })

-- the same of a session that came to a fault
pub views_before : (said : Source) (old new : Option (List Edit)) (edits : List Edit) (ended : SessionFault) (shown : List code.Report) (fault : model.Fault)
    → old ≡ Some [] → new ≡ Some edits → shown ≡ ended.reports
    → CameAt (meaning_of said) (props_of said) (inputs_of said.inputs) (limits_of usual) old new (map report_of ended.reports) fault
    → (seen : List Forest) × HasViewsBefore usual said (map edit_of edits) (map report_of shown) fault seen × ShowInTurn edits (map report_of shown) seen
unfolding HasCome HasViewsBefore
views_before said old new edits ended shown fault began tells same came =
    let held : CameTo (meaning_of said) (props_of said) (inputs_of said.inputs) (limits_of usual) (Some (map edit_of edits)) (map report_of shown) fault =
    came_to usual said old new edits ended shown fault began tells same came in
    let told = held.told in
    let counted : AllCount (map report_of shown) held.told = ((held.holds).recorded).counted in
    let count = length (joined (edits_of held.told)) in
    let first : map edit_of (take (length (joined (edits_of held.told))) edits) ≡ joined (edits_of held.told) =
    front_of edits (joined (edits_of held.told)) _ (held.stopped).edits in
    let each = reports_show {K = SourceTypes} (map report_of shown) held.told (take count edits) counted (held.holds).shown first in
    let led = along (map report_of shown) held.told (take count edits) [] counted each in
    let all : LeadAlong (map report_of shown) edits [] led.0 =
    subst (λ (es : List Edit). LeadAlong (map report_of shown) es [] led.0) (take-append-drop count edits)
    (with_more (map report_of shown) held.told (take count edits) (drop count edits) [] led.0 counted first led.1) in
    (views_of held.told, (held, refl), record { documents = led.0; led = all; are = led.2 })

-- a session that showed this before its fault came to it
pub came_before : (limits : Limits) (said : Source) (edits : List documents.Edit) (reports : List Report) (fault : model.Fault) (seen : List Forest)
    → HasViewsBefore limits said edits reports fault seen → HasCome limits said edits reports fault
unfolding HasCome HasViewsBefore
came_before limits said edits reports fault seen held = held.0

-- the text of a screen that was drawn to the end
pub screen_of : (size : Size) (said : Source) (edits : List Edit) (shown : List code.Report) (seen : List Forest)
    → HasViews usual said (map edit_of edits) (map report_of shown) seen → KeepsMemos usual said (map report_of shown)
    → IsScreenText size said (screen_text size seen)
screen_of size said edits shown seen held kept =
    record { edits = map edit_of edits; reports = map report_of shown; shown = seen; headline = held; memos = kept; printed = refl }

-- what a session that came to a fault showed, and the line of the fault
pub record Ended (size : Size) (said : Source) (edits : List Edit) (reports : List Report) (text : List ℕ) : Type 0 where
  pub seen : List Forest
  pub shows : ShowInTurn edits reports seen
  pub run : IsEndedScreenText size said (screen_text size seen ++ text ∷ [])

pub screen_ended : (size : Size) (said : Source) (old new : Option (List Edit)) (edits : List Edit) (ended : SessionFault) (shown : List code.Report) (text : List ℕ)
    → old ≡ Some [] → new ≡ Some edits → shown ≡ ended.reports
    → ((fault : model.Fault) → fault_of ended.fault ≡ Some fault →
    CameAt (meaning_of said) (props_of said) (inputs_of said.inputs) (limits_of usual) old new (map report_of ended.reports) fault)
    → Some text ≡ option_map (λ f. line (fault_text f)) (fault_of ended.fault)
    → Ended size said edits (map report_of shown) text
screen_ended size said old new edits ended shown text began tells same came is =
    let name = named (fault_of ended.fault) text is in
    let held = views_before said old new edits ended shown name.0 began tells same (came name.0 name.1) in
    record {
      seen = held.0;
      shows = held.2;
      run = record {
        edits = map edit_of edits;
        reports = map report_of shown;
        fault = name.0;
        shown = held.0;
        headline = held.1;
        printed = ap (λ (last : List ℕ). screen_text size held.0 ++ last ∷ []) name.2;
      };
    }
