-- A session goes on with one drain more, or ends there.
use Rattle.std.proofs.Common.{◌≡◌, ℕ, ◌+◌, ◌≤◌, List, [], ◌∷◌, ◌++◌, map, length, refl, sym, ap, ◌∙◌, subst, append-nil, inl, inr, arith}
use Rattle.std.proofs.lemmas.List.{length-map, map-append}
use Rattle.std.specs.Prelude.{Option, Result, Ok, Err}
use Rattle.rt_edits.specs.declared.edit.Edit.{Edit}
use Rattle.rt_inbox.specs.declared.message.Msg.{Msg}
use Rattle.run_outside.specs.Ends.{Ends, Took}
use Rattle.run_machine.specs.Runs.{Runs, StepsTo}
use Rattle.run_outside.specs.Sofar.{Sofar}
use Rattle.run_outside.specs.declared.ended.Ended.{Ended}
use Rattle.run_outside.specs.declared.ended.Ended.TheVariants as ends
use Rattle.run_machine.specs.declared.machine.Machine.{Machine}
use Rattle.run_machine.proofs.Reporting.{runs_wanting}
use Rattle.run_outside.proofs.Sinks.{run-after}
use Rattle.rt_model.specs.Merge.{AreSized, drained}
use Rattle.rt_model.specs.OneLog.{types}
use Rattle.rt_model.specs.Replay as replay
use Rattle.rt_model.specs.World.{Application}
use Rattle.run_reports.specs.Counted.{edits_in}
use Rattle.run_reports.specs.Seen.{limits_of, message_of}
use Rattle.run_reports.specs.declared.limits.Limits.{Limits}
use Rattle.run_reports.specs.declared.report.Report.{Report}
use Rattle.run_state.specs.declared.names.Stop.TheVariants as stops
use Rattle.rt_session.specs.Posted.{drains_of}
use Rattle.rt_session.specs.Sittings.{Awaits, Ceases, IsWanting}
use Rattle.rt_session.specs.declared.sitting.Sitting.{Sitting}
use Rattle.rt_session.proofs.Cuts.{all_both, drained-one}

-- drains with one more, as those of the definitions
drains-one : (old new : List (List Msg)) (d : List Msg) → new ≡ old ++ d ∷ [] → drains_of new ≡ drains_of old ++ map message_of d ∷ []
drains-one old new d same = ap drains_of same ∙ map-append (map message_of) old (d ∷ [])

-- a drain that is neither empty nor too long may stand behind others
pub sized_one : (most : ℕ) (old new : List (List Msg)) (d : List Msg) → new ≡ old ++ d ∷ [] → 1 ≤ length d → length d ≤ most
    → AreSized most (drains_of old) → AreSized most (drains_of new)
sized_one most old new d same some few sized =
    let same_length : length (map message_of d) ≡ length d = length-map d message_of in
    subst (λ ds. AreSized most ds) (sym (drains-one old new d same))
    (all_both (λ (m : List replay.Message). (1 ≤ length m) × (length m ≤ most)) (drains_of old) (map message_of d ∷ []) sized
    ((subst (λ n. 1 ≤ n) (sym same_length) some, subst (λ n. n ≤ most) (sym same_length) few), tt))

module _ {P C Q V H T E L : Type 0} (app : Application (types C Q V H T E L)) (limits : Limits) (props : Q) (before : Option (List Edit))
    (faults : ℕ) where
  -- what taking a drain in says of a session, whatever its inputs are
  abbrev pub Steps : (now then : Option (List Edit)) (old new : Sitting P C Q V H T E L) → List Msg → Result ℕ Ended → Type 0
  Steps now then old new d result =
      (props : Q) (inputs left : List (replay.Input (types C Q V H T E L))) (before : Option (List Edit))
      → Runs app (limits_of limits) props inputs before now old.reports (replay.Drain (map message_of d) ∷ left) old.taken old.machine
      → Sofar inputs (replay.Drain (map message_of d) ∷ left) old.taken old.reports
      → StepsTo app (limits_of limits) props inputs left before then new.reports new.machine result

  -- for these inputs: the drains, this one, and what follows
  step : (now then : Option (List Edit)) (count : ℕ) (old new : Sitting P C Q V H T E L) (d : List Msg) (result : Result ℕ Ended)
      → Awaits app limits props before faults now count old
      → Steps now then old new d result
      → new.drains ≡ old.drains ++ d ∷ []
      → (more : List (replay.Input (types C Q V H T E L)))
      → StepsTo app (limits_of limits) props (drained (drains_of new.drains) ++ more) more before then new.reports new.machine result
  step now then count old new d result awaits steps same more =
      let all : drained (drains_of new.drains) ++ more ≡ drained (drains_of old.drains) ++ replay.Drain (map message_of d) ∷ more =
      ap (λ ds. drained ds ++ more) (drains-one old.drains new.drains d same) ∙ drained-one (drains_of old.drains) (map message_of d) more in
      steps props (drained (drains_of new.drains) ++ more) more before
      (subst (λ (ins : List (replay.Input (types C Q V H T E L))). Runs app (limits_of limits) props ins before now old.reports (replay.Drain (map message_of d) ∷ more) old.taken old.machine) (sym all)
      (awaits.runs (replay.Drain (map message_of d) ∷ more)))
      (subst (λ (ins : List (replay.Input (types C Q V H T E L))). Sofar ins (replay.Drain (map message_of d) ∷ more) old.taken old.reports) (sym all)
      (awaits.sofar (replay.Drain (map message_of d) ∷ more)))

  -- it was taken in
  pub goes_on : (now then : Option (List Edit)) (count later : ℕ) (old new : Sitting P C Q V H T E L) (d : List Msg)
      → Awaits app limits props before faults now count old
      → Steps now then old new d (Ok new.taken)
      → ((before : Option (List Edit)) (faults : ℕ) → Took before now faults count (edits_in old.reports) → Took before then faults later (edits_in new.reports))
      → new.drains ≡ old.drains ++ d ∷ [] → 1 ≤ length d → length d ≤ limits.drain
      → Awaits app limits props before faults then later new
  goes_on now then count later old new d awaits steps took same some few =
      record {
        runs = λ more. (step now then count old new d (Ok new.taken) awaits steps same more).0;
        sofar = λ more. (step now then count old new d (Ok new.taken) awaits steps same more).1;
        took = took before faults awaits.took;
        sized = sized_one limits.drain old.drains new.drains d same some few awaits.sized;
      }

  -- it ended there
  pub ceases : (now then : Option (List Edit)) (count later : ℕ) (old new : Sitting P C Q V H T E L) (d : List Msg) (ended : Ended)
      → Awaits app limits props before faults now count old
      → Steps now then old new d (Err ended)
      → ((before : Option (List Edit)) (faults : ℕ) → Took before now faults count (edits_in old.reports) → Ends limits (edits_in new.reports) before then faults later ended)
      → new.drains ≡ old.drains ++ d ∷ [] → 1 ≤ length d → length d ≤ limits.drain
      → Ceases app limits props before faults then later new ended
  ceases now then count later old new d ended awaits steps why same some few =
      record {
        runs = λ more. (step now then count old new d (Err ended) awaits steps same more).0;
        cause = why before faults awaits.took;
        sized = sized_one limits.drain old.drains new.drains d same some few awaits.sized;
      }

  -- memory was wanting before anything was taken in
  pub wants : (now : Option (List Edit)) (count : ℕ) (s : Sitting P C Q V H T E L)
      → Awaits app limits props before faults now count s
      → Ceases app limits props before faults now count s (ends.Run stops.OutOfMemory)
  wants now count s awaits =
      record {
        runs = λ more.
            runs_wanting app (limits_of limits) props (drained (drains_of s.drains) ++ more) s.machine before now s.reports more s.taken
            (awaits.runs more) (awaits.sofar more);
        cause = run-after limits before now faults count (edits_in s.reports) stops.OutOfMemory awaits.took;
        sized = awaits.sized;
      }

  -- nor was the drain kept
  pub wants_with : (now : Option (List Edit)) (count : ℕ) (s : Sitting P C Q V H T E L) (drains : List (List Msg))
      → drains ≡ s.drains
      → Awaits app limits props before faults now count s
      → Ceases app limits props before faults now count (record s { drains = drains }) (ends.Run stops.OutOfMemory)
  wants_with now count s drains same awaits =
      subst (λ (ds : List (List Msg)). Ceases app limits props before faults now count (record s { drains = ds }) (ends.Run stops.OutOfMemory)) (sym same)
      (wants now count s awaits)
