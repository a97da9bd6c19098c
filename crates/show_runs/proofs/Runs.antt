-- The texts of runs, by what a session tells of its reports and of the edits that its sink took.
use Rattle.std.proofs.Common.{◌≡◌, ℕ, List, [], ◌∷◌, ◌++◌, Option, Some, None, Result, map, refl, ap, sym, subst}
use Rattle.std.specs.Prelude.{option_map, IfOk}
use Rattle.rt_edits.specs.declared.edit.Edit.{Edit}
use Rattle.tree_edits.specs.Documents.{edit_of}
use Rattle.rt_model.specs.State as model
use Rattle.rt_model.specs.Replay.{Input}
use Rattle.rt_model.specs.Causes as causes
use Rattle.rt_model.specs.Document as documents
use Rattle.rt_model.specs.Reports as sessions
use Rattle.rt_model.specs.Headline.{Headline, CameTo}
use Rattle.rt_model.specs.World.{Application}
use Rattle.rt_language.specs.Syntax.{Source}
use Rattle.law_minding.specs.Sessions.{MemosKept}
use Rattle.rt_language.specs.Expressions.{Minding, SourceTypes}
use Rattle.rt_language.specs.Formulas.{formulas}
use Rattle.rt_language.specs.Meaning.{meaning_of, props_of, inputs_of}
use Rattle.rt_language.specs.Values.{Value}
use Rattle.rt_language.specs.Lines.{line, fault_text}
use Rattle.rt_language.specs.Generated.{generated, summary_line}
use Rattle.run_reports.specs.Seen.{fault_of, limits_of, report_of, usual}
use Rattle.run_reports.specs.declared.report.Report.{Report}
use Rattle.run_reports.specs.declared.fault.SessionFault.{SessionFault}
use Rattle.run_reports.specs.declared.limits.Limits.{Limits}
use Rattle.run_outside.specs.Sessions.{Headlined, CameAt}
use Rattle.show_print.specs.Taken.{lines_of}
use Rattle.lang_script.specs.Applications.{meaning_of_script}
use Rattle.lang_script.specs.declared.script.Script.{Script}
use Rattle.show_words.specs.Kept.{KeepsMemos}
use Rattle.show_words.specs.Ready.{MadeOf}
use Rattle.show_words.specs.Texts.{report_lines_from, run_lines_of}
use Rattle.show_words.specs.Runs.{HasHeadline, HasCome, IsRunText, IsFaultText, IsSummary}
use Rattle.show_words.proofs.Preparing.{holds_of, named, of_source}

-- a session into a sink that began with nothing has the headline with what it tells
pub headline_of : (limits : Limits) (said : Source) (old new : Option (List Edit)) (edits : List Edit) (reports shown : List Report) →
    old ≡ Some [] → new ≡ Some edits → shown ≡ reports →
    Headlined (meaning_of said) (props_of said) (inputs_of said.inputs) (limits_of limits) old new (map report_of reports) →
    HasHeadline limits said (Some (map edit_of edits)) (map report_of shown)
unfolding HasHeadline
headline_of limits said old new edits reports shown began tells same headlined =
    holds_of (λ e r. Headline (meaning_of said) (props_of said) (inputs_of said.inputs) (limits_of limits) (Some e) r) old new edits headlined.wrote reports shown
    began tells same headlined.told headlined.headline

-- where the edits aren't asked for
headline_alone : (app : Application SourceTypes) (props : List Value) (inputs : List (Input SourceTypes)) (limits : causes.Limits) (edits : List documents.Edit) (reports : List sessions.Report) →
    Headline app props inputs limits (Some edits) reports → Headline app props inputs limits None reports
headline_alone app props inputs limits edits reports held =
    record { told = held.told; holds = held.holds; done = record { one_each = (held.done).one_each; within = (held.done).within; edits = tt } }

pub headline_untold : (limits : Limits) (said : Source) (old new : Option (List Edit)) (reports : List Report) →
    Headlined (meaning_of said) (props_of said) (inputs_of said.inputs) (limits_of limits) old new (map report_of reports) → HasHeadline limits said None (map report_of reports)
unfolding HasHeadline
headline_untold limits said old new reports headlined =
    headline_alone (meaning_of said) (props_of said) (inputs_of said.inputs) (limits_of limits) (map edit_of headlined.wrote) (map report_of reports) headlined.headline

-- memos that are kept in a session of the script are kept in one of the source
pub memos_of :
    (limits : Limits) (said : Source) (script : Script) (props : List Value) (inputs : List (Input SourceTypes))
    (result : Result (List Report) SessionFault)
    → MadeOf said script props inputs
    → IfOk result (λ reports. MemosKept formulas (meaning_of_script script) Minding props inputs (limits_of limits) (map report_of reports))
    → IfOk result (λ reports. KeepsMemos limits said (map report_of reports))
unfolding KeepsMemos
memos_of limits said script props inputs result made kept =
    of_source (λ app p i. IfOk result (λ reports. MemosKept formulas app Minding p i (limits_of limits) (map report_of reports)))
    said script props inputs made kept

-- so are those of the reports that are told
pub memos_shown : (limits : Limits) (said : Source) (reports shown : List Report)
    → shown ≡ reports → KeepsMemos limits said (map report_of reports) → KeepsMemos limits said (map report_of shown)
memos_shown limits said reports shown same kept = subst (λ (r : List Report). KeepsMemos limits said (map report_of r)) (sym same) kept

-- the generated source: its memos, and its headline
pub memos_generated : (rows : ℕ) (said : Source) (reports : List Report)
    → said ≡ generated rows → KeepsMemos usual said (map report_of reports) → KeepsMemos usual (generated rows) (map report_of reports)
memos_generated rows said reports is kept = subst (λ (s : Source). KeepsMemos usual s (map report_of reports)) is kept

pub headline_generated : (rows : ℕ) (said : Source) (reports : List Report) → said ≡ generated rows → HasHeadline usual said None (map report_of reports) → HasHeadline usual (generated rows) None (map report_of reports)
headline_generated rows said reports is held = subst (λ (s : Source). HasHeadline usual s None (map report_of reports)) is held

-- the same of a session that came to a fault
pub came_to : (limits : Limits) (said : Source) (old new : Option (List Edit)) (edits : List Edit) (ended : SessionFault) (shown : List Report) (fault : model.Fault) →
    old ≡ Some [] → new ≡ Some edits → shown ≡ ended.reports →
    CameAt (meaning_of said) (props_of said) (inputs_of said.inputs) (limits_of limits) old new (map report_of ended.reports) fault →
    HasCome limits said (map edit_of edits) (map report_of shown) fault
unfolding HasCome
came_to limits said old new edits ended shown fault began tells same came =
    holds_of (λ e r. CameTo (meaning_of said) (props_of said) (inputs_of said.inputs) (limits_of limits) (Some e) r fault) old new edits came.wrote ended.reports shown
    began tells same came.told came.came_to

-- edits and reports are the text of a run that was done
pub run_of : (limits : Limits) (said : Source) (edits : List Edit) (shown : List Report)
    → HasHeadline limits said (Some (map edit_of edits)) (map report_of shown) → KeepsMemos limits said (map report_of shown)
    → IsRunText limits said (run_lines_of edits shown)
run_of limits said edits shown held kept =
    record { edits = map edit_of edits; reports = map report_of shown; headline = held; memos = kept; printed = refl }

-- the same of lines that are those of the edits
pub printed_of : (limits : Limits) (said : Source) (edits : List Edit) (lines : List (List ℕ)) (shown : List Report) → lines ≡ lines_of edits
    → HasHeadline limits said (Some (map edit_of edits)) (map report_of shown) → KeepsMemos limits said (map report_of shown)
    → IsRunText limits said (lines ++ report_lines_from 0 shown)
printed_of limits said edits lines shown same held kept =
    subst (λ (ls : List (List ℕ)). IsRunText limits said (ls ++ report_lines_from 0 shown)) (sym same) (run_of limits said edits shown held kept)

pub printed_end : (limits : Limits) (said : Source) (edits : List Edit) (lines : List (List ℕ)) (shown : List Report) (text : List ℕ) → lines ≡ lines_of edits
    → IsFaultText limits said (run_lines_of edits shown ++ text ∷ []) → IsFaultText limits said ((lines ++ report_lines_from 0 shown) ++ text ∷ [])
printed_end limits said edits lines shown text same ended =
    subst (λ (ls : List (List ℕ)). IsFaultText limits said ((ls ++ report_lines_from 0 shown) ++ text ∷ [])) (sym same) ended

-- a summary is that of reports
pub summed_up : (rows : ℕ) (source : Source) (reports shown : List Report) (said : List ℕ) → shown ≡ reports
    → HasHeadline usual source None (map report_of reports) → KeepsMemos usual source (map report_of reports)
    → said ≡ summary_line rows (map report_of shown) → IsSummary rows source (said ∷ [])
summed_up rows source reports shown said same held kept is = record {
  reports = map report_of shown;
  headline = subst (λ (r : List Report). HasHeadline usual source None (map report_of r)) (sym same) held;
  memos = memos_shown usual source reports shown same kept;
  printed = ap (λ (text : List ℕ). text ∷ []) is;
}

-- edits, reports and the line of a fault are the text of a run that it ended
pub ended_by : (limits : Limits) (said : Source) (old new : Option (List Edit)) (edits : List Edit) (ended : SessionFault) (shown : List Report) (text : List ℕ) →
    old ≡ Some [] → new ≡ Some edits → shown ≡ ended.reports →
    ((fault : model.Fault) → fault_of ended.fault ≡ Some fault →
    CameAt (meaning_of said) (props_of said) (inputs_of said.inputs) (limits_of limits) old new (map report_of ended.reports) fault) →
    Some text ≡ option_map (λ f. line (fault_text f)) (fault_of ended.fault) → IsFaultText limits said (run_lines_of edits shown ++ text ∷ [])
ended_by limits said old new edits ended shown text began tells same came is =
    let name = named (fault_of ended.fault) text is in
    record {
      edits = map edit_of edits;
      reports = map report_of shown;
      fault = name.0;
      headline = came_to limits said old new edits ended shown name.0 began tells same (came name.0 name.1);
      printed = ap (λ (last : List ℕ). run_lines_of edits shown ++ last ∷ []) name.2;
    }
