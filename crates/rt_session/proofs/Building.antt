-- The build of a session whose inputs come one by one.
use Rattle.std.proofs.Common.{◌≡◌, ℕ, List, [], ◌∷◌, ◌++◌, map, refl, sym, ap, ◌∙◌, subst}
use Rattle.std.specs.Prelude.{Option, Result, Ok, Err}
use Rattle.rt_edits.specs.declared.edit.Edit.{Edit}
use Rattle.rt_inbox.specs.declared.message.Msg.{Msg}
use Rattle.run_outside.specs.Ends.{Ends, Took}
use Rattle.run_machine.specs.Machines.{IsFresh, noted}
use Rattle.run_machine.specs.Runs.{Runs}
use Rattle.run_outside.specs.Sofar.{Sofar}
use Rattle.run_machine.specs.Stands.{ReportsAs}
use Rattle.run_outside.specs.declared.ended.Ended.{Ended}
use Rattle.run_outside.specs.declared.ended.Ended.TheVariants as ends
use Rattle.run_machine.specs.declared.machine.Machine.{Machine}
use Rattle.run_machine.proofs.Opening.{building}
use Rattle.run_machine.proofs.Reporting.{runs_first, runs_first_cut, runs_first_wanting}
use Rattle.run_outside.proofs.Reports.{edits-first, sofar-begin}
use Rattle.run_outside.proofs.Sinks.{ends-low, run-after, took-same}
use Rattle.rt_model.specs.Merge.{AreSized, drained}
use Rattle.rt_model.specs.OneLog.{types}
use Rattle.rt_model.specs.Replay as replay
use Rattle.rt_model.specs.Replay.{first_state, ones}
use Rattle.rt_model.specs.Reports.{OpensWith, is_opening}
use Rattle.rt_model.specs.Told.{count_entries}
use Rattle.rt_model.specs.World.{Application}
use Rattle.run_reports.specs.Counted.{CountsLog, edits_in}
use Rattle.run_reports.specs.Seen.{entry_of, limits_of}
use Rattle.run_reports.specs.declared.limits.Limits.{Limits}
use Rattle.run_reports.specs.declared.report.Report.{Report}
use Rattle.run_state.specs.Mirror.{at_first, state_of}
use Rattle.run_state.specs.declared.names.Stop.TheVariants as stops
use Rattle.rt_session.specs.Posted.{drains_of}
use Rattle.rt_session.specs.Sittings.{Awaits, Ceases, IsUnbuilt}
use Rattle.rt_session.specs.declared.sitting.Sitting.{Sitting}

-- no drain is empty or too long where there is none
none_sized : (most : ℕ) (drains : List (List Msg)) → drains ≡ [] → AreSized most (drains_of drains)
none_sized most drains none = subst (λ ds. AreSized most (drains_of ds)) (sym none) tt

module _ {P C Q V H T E L : Type 0} (app : Application (types C Q V H T E L)) (limits : Limits) (props : Q) (a b : Option (List Edit)) (f g : ℕ) where
  -- what the build says, whatever the inputs are
  abbrev pub Builds : Machine P C Q V H T E L → Machine P C Q V H T E L → Result Report Ended → Type 0
  Builds old new result =
      (props : Q) (inputs : List (replay.Input (types C Q V H T E L)))
      → IsFresh old
      → state_of at_first (old.scopes).state ≡ first_state app.root props ones
      → ReportsAs app (limits_of limits) (building app (limits_of limits) props inputs) a b new result

  -- a fault came in the build
  pub built_ceases : (old new : Sitting P C Q V H T E L) (ended : Ended)
      → IsUnbuilt app props old
      → Builds old.machine new.machine (Err ended)
      → Ends limits 0 a b f g ended
      → new.drains ≡ old.drains → new.reports ≡ old.reports
      → count_entries is_opening (noted new.machine) ≡ 0
      → Ceases app limits props a f b g new ended
  built_ceases old new ended unbuilt builds why same kept later =
      let none : new.reports ≡ [] = kept ∙ unbuilt.reports in
      record {
        runs = λ more.
            runs_first_cut app (limits_of limits) props (drained (drains_of new.drains) ++ more) new.machine a b ended new.reports
            (builds props (drained (drains_of new.drains) ++ more) unbuilt.fresh unbuilt.state) none later;
        cause = subst (λ rs. Ends limits (edits_in rs) a b f g ended) (sym none) why;
        sized = none_sized limits.drain new.drains (same ∙ unbuilt.drains);
      }

  -- memory was wanting to keep the build's report
  pub built_wants : (old new : Sitting P C Q V H T E L) (report : Report)
      → IsUnbuilt app props old
      → Builds old.machine new.machine (Ok report)
      → Took a b f g report.edits
      → new.drains ≡ old.drains → new.reports ≡ old.reports
      → Ceases app limits props a f b g new (ends.Run stops.OutOfMemory)
  built_wants old new report unbuilt builds took same kept =
      let none : new.reports ≡ [] = kept ∙ unbuilt.reports in
      record {
        runs = λ more.
            runs_first_wanting app (limits_of limits) props (drained (drains_of new.drains) ++ more) new.machine a b report new.reports
            (builds props (drained (drains_of new.drains) ++ more) unbuilt.fresh unbuilt.state) none;
        cause =
            subst (λ rs. Ends limits (edits_in rs) a b f g (ends.Run stops.OutOfMemory)) (sym none)
            (ends-low limits a b f g report.edits (ends.Run stops.OutOfMemory) (run-after limits a b f g report.edits stops.OutOfMemory took));
        sized = none_sized limits.drain new.drains (same ∙ unbuilt.drains);
      }

  -- the build's report is kept
  pub built_goes : (old new : Sitting P C Q V H T E L) (report : Report)
      → IsUnbuilt app props old
      → Builds old.machine new.machine (Ok report)
      → OpensWith replay.Build (map entry_of report.log)
      → CountsLog report
      → Took a b f g report.edits
      → new.drains ≡ old.drains → new.taken ≡ old.taken → new.reports ≡ old.reports ++ report ∷ []
      → Awaits app limits props a f b g new
  built_goes old new report unbuilt builds opens counts took same number pushed =
      let none : new.drains ≡ [] = same ∙ unbuilt.drains in
      let all : (more : List (replay.Input (types C Q V H T E L))) → more ≡ drained (drains_of new.drains) ++ more =
      λ more. ap (λ ds. drained (drains_of ds) ++ more) (sym none) in
      let zero_taken : 0 ≡ new.taken = sym (number ∙ unbuilt.taken) in
      record {
        runs = λ more.
            subst (λ n. Runs app (limits_of limits) props (drained (drains_of new.drains) ++ more) a b new.reports more n new.machine) zero_taken
            (runs_first app (limits_of limits) props (drained (drains_of new.drains) ++ more) new.machine a b report old.reports new.reports more
            (builds props (drained (drains_of new.drains) ++ more) unbuilt.fresh unbuilt.state) counts (all more) unbuilt.reports pushed);
        sofar = λ more.
            subst (λ n. Sofar (drained (drains_of new.drains) ++ more) more n new.reports) zero_taken
            (sofar-begin (drained (drains_of new.drains) ++ more) more old.reports new.reports report (all more) unbuilt.reports pushed opens counts);
        took = took-same a b f g report.edits (edits_in new.reports) (edits-first old.reports new.reports report unbuilt.reports pushed) took;
        sized = none_sized limits.drain new.drains none;
      }
