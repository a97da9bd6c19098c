-- Reports one after another.
use Rattle.std.proofs.Common.{ℕ, ◌+◌, List, [], ◌∷◌, ◌++◌, ◌≡◌, refl, sym, ap, ◌∙◌, subst, map, Result, Ok, Err}
use Rattle.std.specs.Prelude.{Option, Some, None}
use Rattle.rt_lemmas.proofs.Options.{some_same as some_fault}
use Rattle.rt_edits.specs.declared.edit.Edit.{Edit}
use Rattle.rt_model.specs.Document as doc
use Rattle.rt_model.specs.OneLog.{types}
use Rattle.rt_model.specs.Tree.{Types}
use Rattle.rt_model.specs.World.{Application}
use Rattle.rt_model.specs.State as model
use Rattle.rt_model.specs.Replay as replay
use Rattle.rt_model.specs.Replay.{first_state, ones, start}
use Rattle.rt_model.specs.Causes as causes
use Rattle.rt_model.specs.Reports.{OneEach, is_opening}
use Rattle.rt_model.specs.Told.{count_entries}
use Rattle.run_reports.specs.Counted.{CountsLog, logs_in}
use Rattle.law_moves.specs.Moves.{AtRest}
use Rattle.tree_edits.specs.Documents.{edit_of}
use Rattle.run_reports.specs.Seen.{entry_of, report_of}
use Rattle.run_reports.specs.declared.report.Report.{Report}
use Rattle.run_state.specs.Mirror.{at_first, state_of}
use Rattle.run_state.specs.Names.{fault_of}
use Rattle.run_state.specs.declared.names.Stop.{Stop}
use Rattle.run_state.specs.declared.names.Stop.TheVariants as stops
use Rattle.law_moves.specs.Underway.{Refused}
use Rattle.run_machine.specs.Machines.{noted, IsFresh, Builds}
use Rattle.run_outside.specs.Ends.{fault_in}
use Rattle.run_outside.specs.Sessions.{FinishedAt, BrokeOff}
use Rattle.run_outside.specs.Short.{PartBy}
use Rattle.run_machine.specs.Stands.{Going, StandsAt, SettlesAs, EndsEarly, Over, Follows, ReportsAs, RunsAs}
use Rattle.run_outside.specs.declared.ended.Ended.{Ended}
use Rattle.run_outside.specs.declared.ended.Ended.TheVariants as ends
use Rattle.run_machine.specs.declared.machine.Machine.{Machine}
use Rattle.run_machine.proofs.Breaking.{broke_begun, broke_over}
use Rattle.run_machine.proofs.Opening.{building, taking, built_refused}
use Rattle.run_outside.proofs.Reports as counted
use Rattle.run_machine.specs.Runs.{Runs}
use Rattle.run_outside.specs.Sofar.{Sofar}
use Rattle.run_machine.proofs.Running.{running_first, running_more, running_ended, first_refused, next_refused, first_short, next_short}
use Rattle.run_outside.proofs.Short.{short_none, short_rests}
use Rattle.run_machine.proofs.Turning.{grown_none}

-- want of memory is no fault of the definitions
pub wanting : {X : Type 0} (fault : model.Fault) → fault_in (ends.Run stops.OutOfMemory) ≡ Some fault → X
wanting fault why = cc

some_none : {A : Type 0} {X : Type 0} {a : A} → Some a ≡ None → X
some_none h = cc

module _ {K : Types} (app : Application K) (props : K.Props) (inputs : List (replay.Input K)) where
  start_rests : AtRest (replay.start app props inputs)
  start_rests = record { alive = refl; idle = refl; unit = refl }

module _ {P C Q V H T E L : Type 0} (app : Application (types C Q V H T E L)) (limits : causes.Limits) (props : Q) (inputs : List (replay.Input (types C Q V H T E L))) where
  -- the build's own call was cut, or memory was wanting
  pub built_cut : (old new : Machine P C Q V H T E L) (a : Option (List Edit)) (stop : Stop)
      → IsFresh old
      → state_of at_first (old.scopes).state ≡ first_state app.root props ones
      → Builds app old new (Err stop)
      → EndsEarly app limits (building app limits props inputs) [] a a (ends.Run stop) new
  built_cut old new a stops.OutOfMemory fresh is builds = (
    λ fault why. wanting fault why,
    λ none. broke_begun app limits (building app limits props inputs) a (ends.Run stops.OutOfMemory) (start_rests app props inputs) ([], refl),
  )
  built_cut old new a (stops.Fault what) fresh is builds = (
    λ fault why.
        record {
          wrote = [];
          told = grown_none a;
          refused =
              subst (λ (f : model.Fault). Refused app limits props inputs (replay.start app props inputs) (replay.Build ∷ noted new) [] f) (some_fault (fault_of what) fault why)
              (built_refused app limits props inputs old new (fault_of what) fresh is builds);
        },
    λ none. some_none none,
  )

  -- memory was wanting where an input was to be taken in
  pub taking_wanting : (all left : List (replay.Input (types C Q V H T E L))) (taken number : ℕ) (last : replay.Machine (types C Q V H T E L)) (old new : Machine P C Q V H T E L) (a : Option (List Edit))
      → Follows app limits props inputs all taken last old
      → EndsEarly app limits (taking app limits props inputs left number last) [] a a (ends.Run stops.OutOfMemory) new
  taking_wanting all left taken number last old new a follows = (
    λ fault why. wanting fault why,
    λ none. broke_begun app limits (taking app limits props inputs left number last) a (ends.Run stops.OutOfMemory) follows.rest ([], refl),
  )

module _ {P C Q V H T E L : Type 0} (app : Application (types C Q V H T E L)) (limits : causes.Limits) (r : Going (types C Q V H T E L)) where
  -- memory was wanting for the report itself
  pub report_wanting : (before after : Option (List Edit)) (count : ℕ) (d new : Machine P C Q V H T E L)
      → Over app limits r [] before after count d
      → EndsEarly app limits r [] before after (ends.Run stops.OutOfMemory) new
  report_wanting before after count d new over = (
    λ fault why. wanting fault why,
    λ none. broke_over app limits r before after count d (ends.Run stops.OutOfMemory) over ([], refl),
  )

module _ {C Q V H T E L : Type 0} (app : Application (types C Q V H T E L)) (limits : causes.Limits) (props : Q) (inputs : List (replay.Input (types C Q V H T E L))) where
  -- memory was wanting before the build
  pub runs_none_wanting : (a : Option (List Edit)) (none : List Report)
      → none ≡ []
      → RunsAs app limits props inputs a a none (Err (ends.Run stops.OutOfMemory))
  runs_none_wanting a none empty = (
    λ fault why. wanting fault why,
    λ nothing.
        subst (λ (rs : List Report). BrokeOff app props inputs limits a a (map report_of rs) (PartBy (ends.Run stops.OutOfMemory))) (sym empty)
        (first_short app limits props inputs a a [] (PartBy (ends.Run stops.OutOfMemory)) (grown_none a)
        (short_none app limits (PartBy (ends.Run stops.OutOfMemory)) (start app props inputs) (start_rests app props inputs) ([], refl))),
  )

module _ {P C Q V H T E L : Type 0} (app : Application (types C Q V H T E L)) (limits : causes.Limits) (props : Q) (inputs : List (replay.Input (types C Q V H T E L))) where
  -- the build's report is finished
  pub runs_first : (new : Machine P C Q V H T E L) (a b : Option (List Edit)) (report : Report) (none reports : List Report) (left : List (replay.Input (types C Q V H T E L)))
      → ReportsAs app limits (building app limits props inputs) a b new (Ok report)
      → CountsLog report
      → left ≡ inputs
      → none ≡ []
      → reports ≡ none ++ report ∷ []
      → Runs app limits props inputs a b reports left 0 new
  runs_first new a b report none reports left first counts all empty pushed =
      let one : reports ≡ report ∷ [] = pushed ∙ ap (λ (rs : List Report). rs ++ report ∷ []) empty in
      let run : Runs app limits props inputs a b (report ∷ []) inputs 0 new = running_first app limits props inputs report a b new first counts in
      subst (λ (ins : List (replay.Input (types C Q V H T E L))). Runs app limits props inputs a b reports ins 0 new) (sym all)
      (subst (λ (rs : List Report). Runs app limits props inputs a b rs inputs 0 new) (sym one) run)

  -- a fault came in the build
  pub runs_first_cut : (new : Machine P C Q V H T E L) (a b : Option (List Edit)) (ended : Ended) (none : List Report)
      → ReportsAs app limits (building app limits props inputs) a b new (Err ended)
      → none ≡ []
      → count_entries is_opening (noted new) ≡ 0
      → RunsAs app limits props inputs a b none (Err ended)
  runs_first_cut new a b ended none rep empty later = (
    λ fault why.
        subst (λ (rs : List Report). FinishedAt app props inputs limits a b (map report_of rs) fault) (sym empty)
        (first_refused app limits props inputs a b new fault (rep.0 fault why) later),
    λ none.
        let broke = rep.1 none in
        subst (λ (rs : List Report). BrokeOff app props inputs limits a b (map report_of rs) (PartBy ended)) (sym empty)
        (first_short app limits props inputs a b broke.wrote (PartBy ended) broke.told broke.short),
  )

  -- memory was wanting to keep the build's report
  pub runs_first_wanting : (new : Machine P C Q V H T E L) (a b : Option (List Edit)) (report : Report) (none : List Report)
      → ReportsAs app limits (building app limits props inputs) a b new (Ok report)
      → none ≡ []
      → RunsAs app limits props inputs a b none (Err (ends.Run stops.OutOfMemory))
  runs_first_wanting new a b report none rep empty =
      let Part = PartBy (ends.Run stops.OutOfMemory) in (
        λ fault why. wanting fault why,
        λ nothing.
            subst (λ (rs : List Report). BrokeOff app props inputs limits a b (map report_of rs) Part) (sym empty)
            (first_short app limits props inputs a b rep.wrote Part rep.told
            (short_rests app limits props inputs Part (start app props inputs) rep.last (map entry_of report.log) (map edit_of rep.wrote) rep.rests ([], refl))),
      )

  -- what an input's report says
  abbrev pub NextReports : Machine P C Q V H T E L → replay.Input (types C Q V H T E L) → ℕ → Option (List Edit) → Option (List Edit) → Machine P C Q V H T E L → Result Report Ended → Type 0
  NextReports old input number a b new result =
      (props : Q) (inputs left : List (replay.Input (types C Q V H T E L))) (taken : ℕ) (last : replay.Machine (types C Q V H T E L))
      → number ≡ taken + 1
      → Follows app limits props inputs (input ∷ left) taken last old
      → ReportsAs app limits (taking app limits props inputs left number last) a b new result

  -- an input's report is finished
  pub runs_more : (now new : Machine P C Q V H T E L) (a b c : Option (List Edit)) (reports all : List Report) (report : Report) (left : List (replay.Input (types C Q V H T E L))) (input : replay.Input (types C Q V H T E L)) (number next : ℕ)
      → Runs app limits props inputs a b reports (input ∷ left) number now
      → next ≡ number + 1
      → NextReports now input next b c new (Ok report)
      → CountsLog report
      → all ≡ reports ++ report ∷ []
      → Runs app limits props inputs a c all left next new
  runs_more now new a b c reports all report left input number next run is more counts pushed =
      let rep = more props inputs left number run.last is run.follows in
      subst (λ (rs : List Report). Runs app limits props inputs a c rs left next new) (sym pushed)
      (running_more app limits props inputs reports report a b c left input number next now new run rep counts)

  -- a fault came after an input
  pub runs_more_cut : (now new : Machine P C Q V H T E L) (a b c : Option (List Edit)) (reports : List Report) (ended : Ended) (left : List (replay.Input (types C Q V H T E L))) (input : replay.Input (types C Q V H T E L)) (number next : ℕ)
      → Runs app limits props inputs a b reports (input ∷ left) number now
      → next ≡ number + 1
      → NextReports now input next b c new (Err ended)
      → count_entries is_opening (noted new) ≡ 0
      → Sofar inputs (input ∷ left) number reports
      → RunsAs app limits props inputs a c reports (Err ended)
  runs_more_cut now new a b c reports ended left input number next run is more later so =
      let rep = more props inputs left number run.last is run.follows in (
        λ fault why. next_refused app limits props inputs reports a b c (input ∷ left) left input number next now new fault run refl is (rep.0 fault why) later so,
        λ none.
            let broke = rep.1 none in
            next_short app limits props inputs reports a b c (input ∷ left) number now broke.wrote (PartBy ended) run broke.told broke.short
            (counted.sofar-begins inputs (input ∷ left) number reports so),
      )

  -- memory was wanting between two reports
  pub runs_wanting : (now : Machine P C Q V H T E L) (a b : Option (List Edit)) (reports : List Report) (left : List (replay.Input (types C Q V H T E L))) (number : ℕ)
      → Runs app limits props inputs a b reports left number now
      → Sofar inputs left number reports
      → RunsAs app limits props inputs a b reports (Err (ends.Run stops.OutOfMemory))
  runs_wanting now a b reports left number run so =
      let Part = PartBy (ends.Run stops.OutOfMemory) in (
        λ fault why. wanting fault why,
        λ none.
            next_short app limits props inputs reports a b b left number now [] Part run (grown_none b)
            (short_none app limits Part run.last run.follows.rest ([], refl)) (counted.sofar-begins inputs left number reports so),
      )

  -- memory was wanting to keep an input's report
  pub runs_more_wanting : (now new : Machine P C Q V H T E L) (a b c : Option (List Edit)) (reports : List Report) (report : Report) (left : List (replay.Input (types C Q V H T E L))) (input : replay.Input (types C Q V H T E L)) (number next : ℕ)
      → Runs app limits props inputs a b reports (input ∷ left) number now
      → next ≡ number + 1
      → NextReports now input next b c new (Ok report)
      → Sofar inputs (input ∷ left) number reports
      → RunsAs app limits props inputs a c reports (Err (ends.Run stops.OutOfMemory))
  runs_more_wanting now new a b c reports report left input number next run is more so =
      let rep = more props inputs left number run.last is run.follows in
      let Part = PartBy (ends.Run stops.OutOfMemory) in (
        λ fault why. wanting fault why,
        λ none.
            next_short app limits props inputs reports a b c (input ∷ left) number now rep.wrote Part run rep.told
            (short_rests app limits props inputs Part run.last rep.last (map entry_of report.log) (map edit_of rep.wrote) rep.rests ([], refl))
            (counted.sofar-begins inputs (input ∷ left) number reports so),
      )

  -- no input is left
  pub runs_ended : (a b : Option (List Edit)) (reports : List Report) (left : List (replay.Input (types C Q V H T E L))) (number : ℕ) (d : Machine P C Q V H T E L)
      → Runs app limits props inputs a b reports left number d
      → OneEach inputs (logs_in reports)
      → RunsAs app limits props inputs a b reports (Ok tt)
  runs_ended a b reports left number d runs one_each =
      running_ended app limits props inputs reports a b left number d runs one_each
