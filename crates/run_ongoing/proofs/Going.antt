-- One input more, of a session of whose past nothing is kept.
use Rattle.std.proofs.Common.{◌≡◌, ℕ, ◌+◌, List, [], ◌∷◌, ◌++◌, map, Result, Ok, Err, refl, sym, ap, ◌∙◌, subst, append_assoc, append-nil}
use Rattle.std.specs.Prelude.{Option}
use Rattle.rt_edits.specs.declared.edit.Edit.{Edit}
use Rattle.rt_model.specs.Causes as causes
use Rattle.rt_model.specs.OneLog.{types}
use Rattle.rt_model.specs.Replay as replay
use Rattle.rt_model.specs.Replay.{first_state, ones}
use Rattle.rt_model.specs.Reports.{OpensWith, is_opening}
use Rattle.rt_model.specs.Told.{count_entries}
use Rattle.rt_model.specs.World.{Application}
use Rattle.run_machine.proofs.Opening.{building, taking}
use Rattle.run_machine.proofs.Reporting.{NextReports, runs_first, runs_first_cut, runs_more, runs_more_cut, runs_none_wanting, runs_wanting}
use Rattle.run_machine.proofs.Running.{running_ended}
use Rattle.run_machine.specs.Machines.{IsFresh, noted}
use Rattle.run_machine.specs.Runs.{Runs}
use Rattle.run_machine.specs.Stands.{Follows, Going, ReportsAs, RunsAs}
use Rattle.run_machine.specs.declared.machine.Machine.{Machine}
use Rattle.run_ongoing.specs.Ongoings.{AwaitsMore, Carries}
use Rattle.run_ongoing.specs.declared.ongoing.Ongoing.{Ongoing}
use Rattle.run_outside.proofs.Reports.{sofar-begin, sofar-end, sofar-next}
use Rattle.run_outside.proofs.Sinks.{grown-none}
use Rattle.run_outside.specs.Sessions.{Finished}
use Rattle.run_outside.specs.Sofar.{Sofar}
use Rattle.run_outside.specs.declared.ended.Ended.{Ended}
use Rattle.run_outside.specs.declared.ended.Ended.TheVariants as ends
use Rattle.run_reports.specs.Counted.{CountsLog}
use Rattle.run_reports.specs.Seen.{entry_of, limits_of, report_of}
use Rattle.run_reports.specs.declared.limits.Limits.{Limits}
use Rattle.run_reports.specs.declared.report.Report.{Report}
use Rattle.run_state.specs.Mirror.{at_first, state_of}
use Rattle.run_state.specs.declared.names.Stop.TheVariants as stops

module _ {P C Q V H T E L : Type 0} (app : Application (types C Q V H T E L)) (limits : causes.Limits) (r : Going (types C Q V H T E L)) where
  -- a report, with its edits behind those that were told so far
  carried : (old new now after : Option (List Edit)) (d : Machine P C Q V H T E L) (result : Result Report Ended)
      → Carries old new now after
      → ReportsAs app limits r old new d result
      → ReportsAs app limits r now after d result
  carried old new now after d (Ok report) carries rep =
      record {
        wrote = rep.wrote;
        told = carries rep.wrote rep.told;
        counted = rep.counted;
        last = rep.last;
        rests = rep.rests;
        default_enabled = rep.default_enabled;
        between = rep.between;
      }
  carried old new now after d (Err ended) carries rep = (
    λ fault why.
        let came = rep.0 fault why in
        record { wrote = came.wrote; told = carries came.wrote came.told; refused = came.refused },
    λ none.
        let broke = rep.1 none in
        record { wrote = broke.wrote; told = carries broke.wrote broke.told; short = broke.short },
  )

module _ {P C Q V H T E L : Type 0} (meaning : P → Application (types C Q V H T E L)) (app : Application (types C Q V H T E L)) (limits : Limits)
    (props : Q) (inputs : List (replay.Input (types C Q V H T E L))) (input : replay.Input (types C Q V H T E L)) (before now after : Option (List Edit))
    (reports : List Report) where
  -- what an input's report says, of the application that is meant and the edits so far
  next_said : (old : Ongoing P C Q V H T E L) (new : Machine P C Q V H T E L) (number : ℕ) (a c : Option (List Edit)) (result : Result Report Ended)
      → meaning old.app ≡ app
      → old.limits ≡ limits
      → Carries a c now after
      → NextReports (meaning old.app) (limits_of old.limits) props inputs old.machine input number a c new result
      → NextReports app (limits_of limits) props inputs old.machine input number now after new result
  next_said old new number a c result owned limited carries next = λ own all left taken last is follows.
      let there : Follows (meaning old.app) (limits_of old.limits) own all (input ∷ left) taken last old.machine =
      subst (λ (l : Limits). Follows (meaning old.app) (limits_of l) own all (input ∷ left) taken last old.machine) (sym limited)
      (subst (λ (x : Application (types C Q V H T E L)). Follows x (limits_of limits) own all (input ∷ left) taken last old.machine) (sym owned) follows) in
      let said : ReportsAs (meaning old.app) (limits_of old.limits) (taking (meaning old.app) (limits_of old.limits) own all left number last) a c new result =
      next own all left taken last is there in
      let here : ReportsAs app (limits_of limits) (taking app (limits_of limits) own all left number last) a c new result =
      subst (λ (x : Application (types C Q V H T E L)). ReportsAs x (limits_of limits) (taking x (limits_of limits) own all left number last) a c new result) owned
      (subst (λ (l : Limits). ReportsAs (meaning old.app) (limits_of l) (taking (meaning old.app) (limits_of l) own all left number last) a c new result) limited said) in
      carried app (limits_of limits) (taking app (limits_of limits) own all left number last) a c now after new result carries here

  -- the inputs so far, the one that is taken in, and those that follow
  in_front : (more : List (replay.Input (types C Q V H T E L))) → (inputs ++ input ∷ []) ++ more ≡ inputs ++ input ∷ more
  in_front more = append_assoc inputs (input ∷ []) more

  runs_before : (old : Ongoing P C Q V H T E L) → AwaitsMore meaning app limits props inputs before now reports old
      → (more : List (replay.Input (types C Q V H T E L)))
      → Runs app (limits_of limits) props ((inputs ++ input ∷ []) ++ more) before now reports (input ∷ more) old.taken old.machine
  runs_before old awaits more =
      subst (λ (all : List (replay.Input (types C Q V H T E L))). Runs app (limits_of limits) props all before now reports (input ∷ more) old.taken old.machine) (sym (in_front more))
      (awaits.runs (input ∷ more))

  sofar_before : (old : Ongoing P C Q V H T E L) → AwaitsMore meaning app limits props inputs before now reports old
      → (more : List (replay.Input (types C Q V H T E L)))
      → Sofar ((inputs ++ input ∷ []) ++ more) (input ∷ more) old.taken reports
  sofar_before old awaits more =
      subst (λ (all : List (replay.Input (types C Q V H T E L))). Sofar all (input ∷ more) old.taken reports) (sym (in_front more)) (awaits.sofar (input ∷ more))

  -- it was taken in
  pub taken_in : (old new : Ongoing P C Q V H T E L) (report : Report) (a c : Option (List Edit))
      → AwaitsMore meaning app limits props inputs before now reports old
      → Carries a c now after
      → NextReports (meaning old.app) (limits_of old.limits) props inputs old.machine input new.taken a c new.machine (Ok report)
      → new.taken ≡ old.taken + 1
      → OpensWith (replay.Taken new.taken) (map entry_of report.log)
      → CountsLog report
      → new.app ≡ old.app
      → new.limits ≡ old.limits
      → AwaitsMore meaning app limits props (inputs ++ input ∷ []) before after (reports ++ report ∷ []) new
  taken_in old new report a c awaits carries next one opens counts same_app same_limits =
      let said = next_said old new.machine new.taken a c (Ok report) awaits.owned awaits.limited carries next in
      record {
        owned = ap meaning same_app ∙ awaits.owned;
        limited = same_limits ∙ awaits.limited;
        runs = λ more.
            runs_more app (limits_of limits) props ((inputs ++ input ∷ []) ++ more) old.machine new.machine before now after reports (reports ++ report ∷ []) report more input
            old.taken new.taken (runs_before old awaits more) one said counts refl;
        sofar = λ more.
            sofar-next ((inputs ++ input ∷ []) ++ more) (input ∷ more) more input old.taken new.taken reports (reports ++ report ∷ []) report refl one refl
            (sofar_before old awaits more) opens counts;
      }

  no_more : (inputs ++ input ∷ []) ++ [] ≡ inputs ++ input ∷ []
  no_more = append-nil (inputs ++ input ∷ [])

  -- it ended early there
  pub ended_there : (old : Ongoing P C Q V H T E L) (new : Machine P C Q V H T E L) (number : ℕ) (ended : Ended) (a c : Option (List Edit))
      → AwaitsMore meaning app limits props inputs before now reports old
      → Carries a c now after
      → NextReports (meaning old.app) (limits_of old.limits) props inputs old.machine input number a c new (Err ended)
      → number ≡ old.taken + 1
      → count_entries is_opening (noted new) ≡ 0
      → RunsAs app (limits_of limits) props (inputs ++ input ∷ []) before after reports (Err ended)
  ended_there old new number ended a c awaits carries next one later =
      subst (λ (all : List (replay.Input (types C Q V H T E L))). RunsAs app (limits_of limits) props all before after reports (Err ended)) no_more
      (runs_more_cut app (limits_of limits) props ((inputs ++ input ∷ []) ++ []) old.machine new before now after reports ended [] input old.taken number
      (runs_before old awaits []) one (next_said old new number a c (Err ended) awaits.owned awaits.limited carries next) later (sofar_before old awaits []))

  -- there was no number for it: the sink took nothing
  pub unnumbered : (old : Ongoing P C Q V H T E L) (a : Option (List Edit))
      → AwaitsMore meaning app limits props inputs before now reports old
      → Carries a a now after
      → RunsAs app (limits_of limits) props (inputs ++ input ∷ []) before after reports (Err (ends.Run stops.OutOfMemory))
  unnumbered old a awaits carries =
      let same : now ≡ after = grown-none now ∙ sym (carries [] (grown-none a)) in
      subst (λ (told : Option (List Edit)). RunsAs app (limits_of limits) props (inputs ++ input ∷ []) before told reports (Err (ends.Run stops.OutOfMemory))) same
      (subst (λ (all : List (replay.Input (types C Q V H T E L))). RunsAs app (limits_of limits) props all before now reports (Err (ends.Run stops.OutOfMemory))) no_more
      (runs_wanting app (limits_of limits) props ((inputs ++ input ∷ []) ++ []) old.machine before now reports (input ∷ []) old.taken
      (runs_before old awaits []) (sofar_before old awaits [])))

module _ {P C Q V H T E L : Type 0} (meaning : P → Application (types C Q V H T E L)) (app : P) (limits : Limits) (props : Q)
    (a b : Option (List Edit)) where
  -- what the build says, whatever the inputs are
  abbrev Builds : Machine P C Q V H T E L → Machine P C Q V H T E L → Result Report Ended → Type 0
  Builds old new result =
      (own : Q) (inputs : List (replay.Input (types C Q V H T E L)))
      → IsFresh old
      → state_of at_first (old.scopes).state ≡ first_state (meaning app).root own ones
      → ReportsAs (meaning app) (limits_of limits) (building (meaning app) (limits_of limits) own inputs) a b new result

  -- it was built
  pub began : (old : Machine P C Q V H T E L) (new : Ongoing P C Q V H T E L) (report : Report)
      → Builds old new.machine (Ok report)
      → IsFresh old
      → state_of at_first (old.scopes).state ≡ first_state (meaning app).root props ones
      → OpensWith replay.Build (map entry_of report.log)
      → CountsLog report
      → new.app ≡ app → new.limits ≡ limits → new.taken ≡ 0
      → AwaitsMore meaning (meaning app) limits props [] a b (report ∷ []) new
  began old new report builds fresh first opens counts own limited none =
      record {
        owned = ap meaning own;
        limited = limited;
        runs = λ more.
            subst (λ (n : ℕ). Runs (meaning app) (limits_of limits) props more a b (report ∷ []) more n new.machine) (sym none)
            (runs_first (meaning app) (limits_of limits) props more new.machine a b report [] (report ∷ []) more (builds props more fresh first) counts refl refl refl);
        sofar = λ more. subst (λ (n : ℕ). Sofar more more n (report ∷ [])) (sym none) (sofar-begin more more [] (report ∷ []) report refl refl refl opens counts);
      }

  -- it ended in the build
  pub began_none : (old new : Machine P C Q V H T E L) (ended : Ended)
      → Builds old new (Err ended)
      → IsFresh old
      → state_of at_first (old.scopes).state ≡ first_state (meaning app).root props ones
      → count_entries is_opening (noted new) ≡ 0
      → RunsAs (meaning app) (limits_of limits) props [] a b [] (Err ended)
  began_none old new ended builds fresh first later =
      runs_first_cut (meaning app) (limits_of limits) props [] new a b ended [] (builds props [] fresh first) refl later

  -- memory was wanting before it
  pub began_wanting : RunsAs (meaning app) (limits_of limits) props [] a a [] (Err (ends.Run stops.OutOfMemory))
  began_wanting = runs_none_wanting (meaning app) (limits_of limits) props [] a [] refl

module _ {P C Q V H T E L : Type 0} (meaning : P → Application (types C Q V H T E L)) (app : Application (types C Q V H T E L)) (limits : Limits) (props : Q)
    (inputs : List (replay.Input (types C Q V H T E L))) (before now : Option (List Edit)) (reports : List Report) where
  -- nothing follows: it has finished with the inputs that it took in
  pub finished_so_far : (s : Ongoing P C Q V H T E L)
      → AwaitsMore meaning app limits props inputs before now reports s
      → Finished app props inputs (limits_of limits) before now (map report_of reports)
  finished_so_far s awaits =
      let none : inputs ++ [] ≡ inputs = append-nil inputs in
      subst (λ (all : List (replay.Input (types C Q V H T E L))). Finished app props all (limits_of limits) before now (map report_of reports)) none
      (running_ended app (limits_of limits) props (inputs ++ []) reports before now [] s.taken s.machine (awaits.runs [])
      (sofar-end (inputs ++ []) [] s.taken reports refl (awaits.sofar [])))
