-- One input more, and a line that is none.
use Rattle.std.proofs.Common.{◌≡◌, ℕ, ◌+◌, Bool, true, false, List, [], ◌∷◌, ◌++◌, length, map, refl, sym, ap, ◌∙◌, subst, arith}
use Rattle.std.proofs.lemmas.List.{length-append, length-map, map-append}
use Rattle.std.specs.Prelude.{Option, Some, None}
use Rattle.rt_lemmas.proofs.Options.{some_same}
use Rattle.lang_minding.specs.Kept.{SourcesKeepMemos}
use Rattle.lang_script.specs.Applications.{meaning_of_script}
use Rattle.law_minding.specs.Sessions.{MemosKept}
use Rattle.rt_edits.specs.Sinks.{grown}
use Rattle.rt_edits.specs.declared.edit.Edit.{Edit}
use Rattle.rt_language.specs.Meaning.{input_of, inputs_of, meaning_of, props_of}
use Rattle.rt_language.specs.Expressions.{Minding, SourceTypes}
use Rattle.rt_language.specs.Formulas.{formulas}
use Rattle.rt_language.specs.Syntax.{InputSource, Source}
use Rattle.rt_model.specs.Headline.{CameTo, Headline}
use Rattle.rt_model.specs.Lists.{Text}
use Rattle.rt_model.specs.Replay.{Input}
use Rattle.rt_model.specs.State as model
use Rattle.run_ongoing.specs.Ongoings.{AwaitsMore, Carries, EndsAt, number_of}
use Rattle.run_outside.specs.Ends.{Took}
use Rattle.run_outside.specs.Sessions.{Headlined}
use Rattle.run_reports.specs.Seen.{fault_of, limits_of, report_of, usual}
use Rattle.run_reports.specs.declared.fault.Fault.{Fault}
use Rattle.run_reports.specs.declared.report.Report.{Report}
use Rattle.show_answers.proofs.Growing.{grow, grow-answered, refuse, refuse-answered}
use Rattle.show_answers.specs.Streamed.{AreAnswered, answer, refusal, streamed}
use Rattle.show_answers.specs.Told.{Form, ToldFault}
use Rattle.show_objects.specs.Lines.{lines_in, report_line_in}
use Rattle.show_stream.proofs.Asking.{inputs_more, inputs_none, marks_more}
use Rattle.show_stream.specs.Put.{faulted}
use Rattle.show_stream.specs.Streams.{IsFaulted, IsTold, inputs_in, marks_of}
use Rattle.show_stream.specs.UnderWay.{IsAt}
use Rattle.show_stream.specs.declared.streaming.Streaming.{Streaming}
use Rattle.tree_edits.specs.Documents.{edit_of}

-- a new sink's edits come behind those that were written
pub carries_on : (old new : Option (List Edit)) (wrote own : List Edit) → old ≡ Some [] → new ≡ Some own → Carries old new (Some wrote) (Some (wrote ++ own))
carries_on old new wrote own began tells = λ edits told.
    let all : Some own ≡ grown (Some []) edits = sym tells ∙ told ∙ ap (λ o. grown o edits) began in
    ap (λ es. Some (wrote ++ es)) (some_same own edits all)

-- as many as their report counts
pub own_count : (old new : Option (List Edit)) (own : List Edit) (before after : ℕ) (report : Report) → old ≡ Some [] → new ≡ Some own
    → Took old new before after report.edits → length (map edit_of own) ≡ (report_of report).edits
own_count old new own before after report began tells took =
    let all : Some own ≡ grown (Some []) took.edits = sym tells ∙ took.told ∙ ap (λ o. grown o took.edits) began in
    length-map own edit_of ∙ ap length (some_same own took.edits all) ∙ took.counted

-- the headline of edits that came behind none
behind_none : (wrote all : List Edit) → Some all ≡ grown (Some []) wrote → wrote ≡ all
behind_none wrote all told = sym (some_same all wrote told)

-- where the headline holds, memos and resources are kept
pub memos_held : SourcesKeepMemos → (source : Source) (asked : List (Option InputSource)) (now : Option (List Edit)) (reports : List Report)
    → Headlined (meaning_of source) (props_of source) (inputs_of (inputs_in asked)) (limits_of usual) (Some []) now (map report_of reports)
    → MemosKept formulas (meaning_of source) Minding (props_of source) (inputs_of (inputs_in asked)) (limits_of usual) (map report_of reports)
memos_held law source asked now reports headlined =
    law source (props_of source) (inputs_of (inputs_in asked)) (limits_of usual) (Some (map edit_of headlined.wrote)) (map report_of reports) headlined.headline

-- one report more
longer : (reports : List Report) (report : Report) (taken next : ℕ) → length reports ≡ taken + 1 → next ≡ taken + 1 → length (reports ++ report ∷ []) ≡ next + 1
longer reports report taken next counted one =
    let all : length (reports ++ report ∷ []) ≡ length reports + 1 = length-append reports (report ∷ []) in
    omega (arith, all, counted, one)

module _ (form : Form) (source : Source) (asked : List (Option InputSource)) (text : List Text) where
  -- what was put is told
  pub told_at : (s : Streaming) → (at : IsAt form source asked text s)
      → Headlined (meaning_of source) (props_of source) (inputs_of (inputs_in asked)) (limits_of usual) (Some []) (Some at.wrote) (map report_of at.reports)
      × MemosKept formulas (meaning_of source) Minding (props_of source) (inputs_of (inputs_in asked)) (limits_of usual) (map report_of at.reports)
      → IsTold form source asked text
  told_at s at held =
      record {
        edits = map edit_of at.wrote;
        reports = map report_of at.reports;
        headline =
            subst (λ (wrote : List Edit). Headline (meaning_of source) (props_of source) (inputs_of (inputs_in asked)) (limits_of usual) (Some (map edit_of wrote)) (map report_of at.reports))
            (behind_none (held.0).wrote at.wrote (held.0).told) (held.0).headline;
        memos = held.1;
        printed = at.printed;
      }

  -- an input was taken in, and is answered by its edits and its report
  pub one_more : (said : InputSource) (old new : Streaming) (report : Report) (own : List Edit) (lines : List Text)
      → (at : IsAt form source asked text old)
      → AwaitsMore (λ script. meaning_of_script script) (meaning_of source) usual (props_of source) (inputs_of (inputs_in asked) ++ input_of said ∷ [])
      (Some []) (Some (at.wrote ++ own)) (at.reports ++ report ∷ []) new.session
      → number_of new.session ≡ number_of old.session + 1
      → length (map edit_of own) ≡ (report_of report).edits
      → lines ≡ lines_in form own
      → IsAt form source (asked ++ Some said ∷ []) (text ++ (lines ++ report_line_in form (number_of new.session) report ∷ [])) new
  one_more said old new report own lines at awaits one counts are =
      let marks = marks_of asked in
      let wrote = map edit_of at.wrote in
      let reports = map report_of at.reports in
      let edits_are : map edit_of (at.wrote ++ own) ≡ wrote ++ map edit_of own = map-append edit_of at.wrote own in
      let reports_are : map report_of (at.reports ++ report ∷ []) ≡ reports ++ report_of report ∷ [] = map-append report_of at.reports (report ∷ []) in
      let number : length reports ≡ number_of new.session = length-map at.reports report_of ∙ at.counted ∙ sym one in
      let more : (marks_of (asked ++ Some said ∷ [])) ≡ marks ++ true ∷ [] = marks_more asked (Some said) in
      let whole : streamed form (marks ++ true ∷ []) 0 (wrote ++ map edit_of own) (reports ++ report_of report ∷ [])
      ≡ streamed form marks 0 wrote reports ++ answer form (0 + length reports) (map edit_of own) (report_of report) =
      grow form marks 0 wrote (map edit_of own) reports (report_of report) at.answered counts in
      let none : 0 + length reports ≡ length reports = omega arith in
      let counted : 0 + length reports ≡ number_of new.session = none ∙ number in
      record {
        wrote = at.wrote ++ own;
        reports = at.reports ++ report ∷ [];
        awaits =
            subst (λ (inputs : List (Input SourceTypes)). AwaitsMore (λ script. meaning_of_script script) (meaning_of source) usual (props_of source) inputs (Some []) (Some (at.wrote ++ own)) (at.reports ++ report ∷ []) new.session)
            (sym (inputs_more asked said)) awaits;
        answered =
            subst (λ (ms : List Bool). AreAnswered ms (map edit_of (at.wrote ++ own)) (map report_of (at.reports ++ report ∷ []))) (sym more)
            (subst (λ es. AreAnswered (marks ++ true ∷ []) es (map report_of (at.reports ++ report ∷ []))) (sym edits_are)
            (subst (λ rs. AreAnswered (marks ++ true ∷ []) (wrote ++ map edit_of own) rs) (sym reports_are)
            (grow-answered marks wrote (map edit_of own) reports (report_of report) at.answered counts)));
        counted = longer at.reports report (number_of old.session) (number_of new.session) at.counted one;
        printed =
            ap (λ t. t ++ (lines ++ report_line_in form (number_of new.session) report ∷ [])) at.printed
            ∙ ap (λ (ls : List Text). streamed form marks 0 wrote reports ++ (ls ++ report_line_in form (number_of new.session) report ∷ [])) are
            ∙ ap (λ n. streamed form marks 0 wrote reports ++ answer form n (map edit_of own) (report_of report)) (sym counted)
            ∙ sym whole
            ∙ ap (λ es. streamed form (marks ++ true ∷ []) 0 es (reports ++ report_of report ∷ [])) (sym edits_are)
            ∙ ap (λ rs. streamed form (marks ++ true ∷ []) 0 (map edit_of (at.wrote ++ own)) rs) (sym reports_are)
            ∙ ap (λ ms. streamed form ms 0 (map edit_of (at.wrote ++ own)) (map report_of (at.reports ++ report ∷ []))) (sym more);
      }

  -- a line that is no input changes nothing, and is answered by a refusal
  pub none_more : (s : Streaming) → (at : IsAt form source asked text s) → IsAt form source (asked ++ None ∷ []) (text ++ refusal form ∷ []) s
  none_more s at =
      let marks = marks_of asked in
      let wrote = map edit_of at.wrote in
      let reports = map report_of at.reports in
      let more : (marks_of (asked ++ None ∷ [])) ≡ marks ++ false ∷ [] = marks_more asked None in
      record {
        wrote = at.wrote;
        reports = at.reports;
        awaits =
            subst (λ (inputs : List (Input SourceTypes)). AwaitsMore (λ script. meaning_of_script script) (meaning_of source) usual (props_of source) inputs (Some []) (Some at.wrote) at.reports s.session)
            (sym (inputs_none asked)) at.awaits;
        answered = subst (λ (ms : List Bool). AreAnswered ms wrote reports) (sym more) (refuse-answered marks wrote reports at.answered);
        counted = at.counted;
        printed =
            ap (λ t. t ++ refusal form ∷ []) at.printed
            ∙ sym (refuse form marks 0 wrote reports at.answered)
            ∙ ap (λ ms. streamed form ms 0 wrote reports) (sym more);
      }

  -- the session came to a fault at an input
  pub one_faulted : (said : InputSource) (old : Streaming) (fault : Fault) (own : List Edit) (lines : List Text)
      → (at : IsAt form source asked text old)
      → EndsAt (meaning_of source) usual (props_of source) (inputs_of (inputs_in asked) ++ input_of said ∷ []) (Some []) (Some (at.wrote ++ own)) at.reports fault
      → lines ≡ lines_in form own
      → (f : model.Fault) → fault_of fault ≡ Some f
      → IsFaulted form source (asked ++ Some said ∷ []) (text ++ faulted form lines f)
  one_faulted said old fault own lines at ends are f why =
      let came = ends.0 f why in
      let edits_are : map edit_of (at.wrote ++ own) ≡ map edit_of at.wrote ++ map edit_of own = map-append edit_of at.wrote own in
      let to : CameTo (meaning_of source) (props_of source) (inputs_of (inputs_in asked) ++ input_of said ∷ []) (limits_of usual) (Some (map edit_of (at.wrote ++ own))) (map report_of at.reports) f =
      subst (λ (wrote : List Edit). CameTo (meaning_of source) (props_of source) (inputs_of (inputs_in asked) ++ input_of said ∷ []) (limits_of usual) (Some (map edit_of wrote)) (map report_of at.reports) f)
      (behind_none came.wrote (at.wrote ++ own) came.told) came.came_to in
      record {
        finished = marks_of asked;
        last = marks_more asked (Some said);
        edits = map edit_of at.wrote;
        more = map edit_of own;
        reports = map report_of at.reports;
        fault = f;
        came_to =
            subst (λ (inputs : List (Input SourceTypes)). CameTo (meaning_of source) (props_of source) inputs (limits_of usual) (Some (map edit_of at.wrote ++ map edit_of own)) (map report_of at.reports) f)
            (sym (inputs_more asked said))
            (subst (λ es. CameTo (meaning_of source) (props_of source) (inputs_of (inputs_in asked) ++ input_of said ∷ []) (limits_of usual) (Some es) (map report_of at.reports) f) edits_are to);
        answered = at.answered;
        printed =
            ap (λ t. t ++ faulted form lines f) at.printed
            ∙ ap (λ (ls : List Text). streamed form (marks_of asked) 0 (map edit_of at.wrote) (map report_of at.reports) ++ (ls ++ form (ToldFault f) ∷ [])) are;
      }

module _ (form : Form) (source : Source) where
  -- it was built
  pub built_at : (s : Streaming) (report : Report) (own : List Edit) (lines : List Text)
      → AwaitsMore (λ script. meaning_of_script script) (meaning_of source) usual (props_of source) [] (Some []) (Some own) (report ∷ []) s.session
      → number_of s.session ≡ 0
      → length (map edit_of own) ≡ (report_of report).edits
      → lines ≡ lines_in form own
      → IsAt form source [] ([] ++ (lines ++ report_line_in form 0 report ∷ [])) s
  built_at s report own lines awaits none counts are =
      record {
        wrote = own;
        reports = report ∷ [];
        awaits = awaits;
        answered = grow-answered [] [] (map edit_of own) [] (report_of report) refl counts;
        counted = ap (λ n. n + 1) (sym none);
        printed =
            ap (λ (ls : List Text). ls ++ report_line_in form 0 report ∷ []) are
            ∙ sym (grow form [] 0 [] (map edit_of own) [] (report_of report) refl counts);
      }

  -- it came to a fault in the build
  pub built_faulted : (fault : Fault) (own : List Edit) (lines : List Text)
      → EndsAt (meaning_of source) usual (props_of source) [] (Some []) (Some own) [] fault
      → lines ≡ lines_in form own
      → (f : model.Fault) → fault_of fault ≡ Some f
      → IsFaulted form source [] ([] ++ faulted form lines f)
  built_faulted fault own lines ends are f why =
      let came = ends.0 f why in
      record {
        finished = [];
        last = refl;
        edits = [];
        more = map edit_of own;
        reports = [];
        fault = f;
        came_to =
            subst (λ (wrote : List Edit). CameTo (meaning_of source) (props_of source) [] (limits_of usual) (Some (map edit_of wrote)) [] f)
            (behind_none came.wrote own came.told) came.came_to;
        answered = refl;
        printed = ap (λ (ls : List Text). ls ++ form (ToldFault f) ∷ []) are;
      }
