-- One report after another, up to the end or to a fault.
use Rattle.std.proofs.Common.{ℕ, ◌+◌, true, List, [], ◌∷◌, ◌++◌, ◌≡◌, refl, sym, ap, ◌∙◌, subst, length, map}
use Rattle.std.proofs.lemmas.List.{length-map, map-append, append-nil}
use Rattle.std.specs.Prelude.{Option, Some}
use Rattle.rt_edits.specs.Sinks.{grown}
use Rattle.rt_edits.specs.declared.edit.Edit.{Edit}
use Rattle.tree_edits.specs.Documents.{edit_of}
use Rattle.rt_model.specs.Document as doc
use Rattle.rt_model.specs.OneLog.{types}
use Rattle.rt_model.specs.Tree as tree
use Rattle.rt_model.specs.World.{Application}
use Rattle.rt_model.specs.State as model
use Rattle.rt_model.specs.Replay as replay
use Rattle.rt_model.specs.Replay.{start}
use Rattle.rt_model.specs.Causes as causes
use Rattle.rt_model.specs.Told.{Told, is_settled}
use Rattle.rt_model.specs.Reports.{OpensWith, InputsFrom, OneEach, CutFrom, OneEachThen, is_opening, logs_of, Counts}
use Rattle.rt_model.specs.Ran.{RanTo}
use Rattle.rt_model.specs.Told.{count_entries}
use Rattle.run_reports.specs.Seen.{entry_of, report_of}
use Rattle.run_reports.specs.Counted.{CountsLog, BeginsOneEach, logs_in}
use Rattle.run_reports.specs.declared.report.Report.{Report}
use Rattle.law_moves.specs.Sessions.{Sofar}
use Rattle.law_moves.specs.Underway.{Rests}
use Rattle.law_moves.proofs.Sessions.{rest_owes_none, sofar_none, sofar_more, sofar_ran, sofar_ran_to}
use Rattle.run_machine.specs.Machines.{noted}
use Rattle.run_outside.specs.Ends.{fault_in}
use Rattle.run_outside.specs.Sessions.{Finished, FinishedAt, BrokeOff}
use Rattle.run_outside.specs.Sofar as outside
use Rattle.run_machine.specs.Runs.{Runs}
use Rattle.run_outside.specs.Short.{Short, RanShort}
use Rattle.run_machine.specs.Stands.{Going, Follows, Reported, CameTo}
use Rattle.run_machine.specs.declared.machine.Machine.{Machine}
use Rattle.run_machine.proofs.Opening.{building, taking}
use Rattle.run_outside.proofs.Reports as counted
use Rattle.run_outside.proofs.Reports.{filler, fills}
use Rattle.run_outside.proofs.Short.{sofar_short}
pub use Rattle.run_outside.proofs.Sinks.{grown-more as told_more}

-- the logs of reports, by the two words for them
pub logs_are : (reports : List Report) → logs_of (map report_of reports) ≡ logs_in reports
logs_are [] = refl
logs_are (r ∷ reports) = ap (λ logs. map entry_of r.log ∷ logs) (logs_are reports)

module _ {K : tree.Types} where
  cut_at : (k : ℕ) (inputs : List (replay.Input K)) (logs more : List (List replay.Entry)) (last : List replay.Entry) → InputsFrom k inputs (logs ++ last ∷ more) → CutFrom k inputs logs last
  cut_at k [] [] more last h = absurd h
  cut_at k [] (log ∷ logs) more last h = absurd h
  cut_at k (input ∷ inputs) [] more last h = h.0
  cut_at k (input ∷ inputs) (log ∷ logs) more last h = (h.0, cut_at (k + 1) inputs logs more last h.1)

  -- of one log each those up to one that was cut
  pub cut_there : (inputs : List (replay.Input K)) (logs more : List (List replay.Entry)) (last : List replay.Entry) → OneEach inputs (logs ++ last ∷ more) → OneEachThen inputs logs last
  cut_there inputs [] more last h = h.0
  cut_there inputs (log ∷ logs) more last h = (h.0, cut_at 1 inputs logs more last h.1)

module _ {K : tree.Types} (app : Application K) (limits : causes.Limits) (props : K.Props) (inputs : List (replay.Input K)) where
  -- it broke off before a report was finished
  pub first_short : (before after : Option (List Edit)) (wrote : List Edit) (Part : List doc.Edit → List doc.Edit → Type 0)
      → after ≡ grown before wrote
      → Short app limits Part (start app props inputs) (map edit_of wrote)
      → BrokeOff app props inputs limits before after [] Part
  first_short before after wrote Part told short =
      record {
        wrote = wrote;
        told = told;
        ran_short = sofar_short app limits props inputs Part [] [] (map edit_of wrote) (start app props inputs) (sofar_none app limits props inputs) short (counted.none-begins inputs);
      }

module _ {P C Q V H T E L : Type 0} (app : Application (types C Q V H T E L)) (limits : causes.Limits) (props : Q) (inputs : List (replay.Input (types C Q V H T E L))) where
  reported_more : (r : Going (types C Q V H T E L)) (reports : List Report) (report : Report) (edits : List doc.Edit) (before after : Option (List Edit)) (d : Machine P C Q V H T E L)
      → (rep : Reported app limits r report before after d)
      → r.props ≡ props
      → r.inputs ≡ inputs
      → Sofar app limits props inputs (map report_of reports) edits r.from
      → CountsLog report
      → Sofar app limits props inputs (map report_of (reports ++ report ∷ [])) (edits ++ map edit_of rep.wrote) rep.last
  reported_more r reports report edits before after d rep same_props same_inputs sofar counts =
      let rests : Rests app limits props inputs r.from (map entry_of report.log) (map edit_of rep.wrote) rep.last =
      subst (λ p. Rests app limits p inputs r.from (map entry_of report.log) (map edit_of rep.wrote) rep.last) same_props
      (subst (λ i. Rests app limits r.props i r.from (map entry_of report.log) (map edit_of rep.wrote) rep.last) same_inputs rep.rests) in
      let told : Told (types C Q V H T E L) = record { edits = map edit_of rep.wrote; machine = rep.last } in
      let counted_is : Counts (report_of report) told =
      record {
        units = counts.units;
        bodies = counts.bodies;
        edits = sym rep.counted ∙ sym (length-map rep.wrote edit_of);
        default_enabled = rep.default_enabled;
      } in
      subst (λ (rs : List _). Sofar app limits props inputs rs (edits ++ map edit_of rep.wrote) rep.last) (sym (map-append report_of reports (report ∷ [])))
      (sofar_more app limits props inputs (map report_of reports) edits (map edit_of rep.wrote) r.from rep.last (report_of report) sofar rests
      (rest_owes_none rep.last rests.rest rests.built rep.between.quiet rep.between.none) counted_is)

  -- the build's report is finished
  pub running_first : (report : Report) (before after : Option (List Edit)) (d : Machine P C Q V H T E L)
      → Reported app limits (building app limits props inputs) report before after d
      → CountsLog report
      → Runs app limits props inputs before after (report ∷ []) inputs 0 d
  running_first report before after d rep counts =
      record {
        wrote = rep.wrote;
        told = rep.told;
        last = rep.last;
        sofar = reported_more (building app limits props inputs) [] report [] before after d rep refl refl (sofar_none app limits props inputs) counts;
        follows = record { rest = rep.rests.rest; built = rep.rests.built; reached = rep.rests.reached; between = rep.between };
      }

  -- an input's report is finished
  pub running_more : (reports : List Report) (report : Report) (before now after : Option (List Edit)) (left : List (replay.Input (types C Q V H T E L))) (input : replay.Input (types C Q V H T E L)) (number next : ℕ) (d e : Machine P C Q V H T E L)
      → (run : Runs app limits props inputs before now reports (input ∷ left) number d)
      → Reported app limits (taking app limits props inputs left next run.last) report now after e
      → CountsLog report
      → Runs app limits props inputs before after (reports ++ report ∷ []) left next e
  running_more reports report before now after left input number next d e run rep counts =
      record {
        wrote = run.wrote ++ rep.wrote;
        told = told_more before now after run.wrote rep.wrote run.told rep.told;
        last = rep.last;
        sofar =
            subst (λ es. Sofar app limits props inputs (map report_of (reports ++ report ∷ [])) es rep.last) (sym (map-append edit_of run.wrote rep.wrote))
            (reported_more (taking app limits props inputs left next run.last) reports report (map edit_of run.wrote) now after e rep refl refl run.sofar counts);
        follows = record { rest = rep.rests.rest; built = rep.rests.built; reached = rep.rests.reached; between = rep.between };
      }

  -- no input is left
  pub running_ended : (reports : List Report) (before now : Option (List Edit)) (left : List (replay.Input (types C Q V H T E L))) (number : ℕ) (d : Machine P C Q V H T E L)
      → Runs app limits props inputs before now reports left number d
      → OneEach inputs (logs_in reports)
      → Finished app props inputs limits before now (map report_of reports)
  running_ended reports before now left number d run one_each =
      record {
        wrote = run.wrote;
        told = run.told;
        ran = sofar_ran app limits props inputs (map report_of reports) (map edit_of run.wrote) run.last run.sofar
            (subst (λ logs. OneEach inputs logs) (sym (logs_are reports)) one_each);
      }

  -- a fault came in the build
  pub first_refused : (before after : Option (List Edit)) (d : Machine P C Q V H T E L) (fault : model.Fault)
      → CameTo app limits (building app limits props inputs) [] before after fault d
      → count_entries is_opening (noted d) ≡ 0
      → FinishedAt app props inputs limits before after [] fault
  first_refused before after d fault came later =
      record {
        wrote = came.wrote;
        told = came.told;
        ran_to = sofar_ran_to app limits props inputs [] [] (map edit_of came.wrote) (start app props inputs) (replay.Build ∷ noted d) fault (sofar_none app limits props inputs) came.refused (refl, later);
      }

  -- a fault came after an input
  pub next_refused : (reports : List Report) (before now after : Option (List Edit)) (left rest : List (replay.Input (types C Q V H T E L))) (input : replay.Input (types C Q V H T E L)) (number next : ℕ) (d e : Machine P C Q V H T E L) (fault : model.Fault)
      → (run : Runs app limits props inputs before now reports left number d)
      → left ≡ input ∷ rest
      → next ≡ number + 1
      → CameTo app limits (taking app limits props inputs rest next run.last) [] now after fault e
      → count_entries is_opening (noted e) ≡ 0
      → outside.Sofar inputs left number reports
      → FinishedAt app props inputs limits before after (map report_of reports) fault
  next_refused reports before now after left rest input number next d e fault run step is came later s =
      let last : List replay.Entry = replay.Taken next ∷ noted e in
      let opens : OpensWith (replay.Taken (number + 1)) last = (ap (λ (n : ℕ). replay.Taken n) is, later) in
      let more : List (List replay.Entry) = filler (number + 1 + 1) rest in
      let each : OneEach inputs (logs_in reports ++ last ∷ more) =
      s.opens (last ∷ more) (subst (λ ins. InputsFrom (number + 1) ins (last ∷ more)) (sym step) (opens, fills (number + 1 + 1) rest)) in
      let one_each : OneEachThen inputs (logs_of (map report_of reports)) last =
      subst (λ logs. OneEachThen inputs logs last) (sym (logs_are reports)) (cut_there inputs (logs_in reports) more last each) in
      record {
        wrote = run.wrote ++ came.wrote;
        told = told_more before now after run.wrote came.wrote run.told came.told;
        ran_to =
            subst (λ es. RanTo app props inputs limits (Some es) (map report_of reports) fault) (sym (map-append edit_of run.wrote came.wrote))
            (sofar_ran_to app limits props inputs (map report_of reports) (map edit_of run.wrote) (map edit_of came.wrote) run.last last fault run.sofar came.refused one_each);
      }

  -- it broke off after these reports
  pub next_short : (reports : List Report) (before now after : Option (List Edit)) (left : List (replay.Input (types C Q V H T E L))) (number : ℕ) (d : Machine P C Q V H T E L) (wrote : List Edit) (Part : List doc.Edit → List doc.Edit → Type 0)
      → (run : Runs app limits props inputs before now reports left number d)
      → after ≡ grown now wrote
      → Short app limits Part run.last (map edit_of wrote)
      → BeginsOneEach inputs (logs_in reports)
      → BrokeOff app props inputs limits before after (map report_of reports) Part
  next_short reports before now after left number d wrote Part run told short begins =
      record {
        wrote = run.wrote ++ wrote;
        told = told_more before now after run.wrote wrote run.told told;
        ran_short =
            subst (λ es. RanShort app props inputs limits (Some es) (map report_of reports) Part) (sym (map-append edit_of run.wrote wrote))
            (sofar_short app limits props inputs Part (map report_of reports) (map edit_of run.wrote) (map edit_of wrote) run.last run.sofar short
            (subst (λ logs. BeginsOneEach inputs logs) (sym (logs_are reports)) begins));
      }
