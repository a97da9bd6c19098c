-- The reports so far are those of the build and of the inputs that were taken, and the sink took their edits.
use Rattle.std.proofs.Common.{◌≡◌, length, map}
use Rattle.std.specs.Vec.Iter.{into_iter_items, into_iter_len}
use Rattle.rt_model.specs.Replay.{first_state, ones}
use Rattle.run_reports.specs.Counted.{edits_in}
use Rattle.run_reports.specs.Seen.{input_of, limits_of}
use Rattle.run_state.specs.Mirror.{at_first, state_of}
use Rattle.run_outside.specs.Ends.{Took}
use Rattle.run_machine.specs.Machines.{IsFresh}
use Rattle.run_machine.specs.Runs.{Runs}
use Rattle.run_outside.specs.Sofar.{Sofar}
use Rattle.rt_session.proofs.runner.run_on.Given as goal

abbrev pub invariant-loop-input : goal.invariant-loop-input
invariant-loop-input g l = record {
  took :
      Took (g.M.WriteMutations.taken l.fn.sink) (g.M.WriteMutations.taken l.sink) (g.M.WriteMutations.faults l.fn.sink) (g.M.WriteMutations.faults l.sink) (edits_in l.reports);
  runs : (props : _) → IsFresh l.fn.machine → state_of at_first ((l.fn.machine).scopes).state ≡ first_state ((g.A.App.meaning l.app).root) props ones
      → Runs (g.A.App.meaning l.app) (limits_of l.fn.limits) props (map input_of l.fn.inputs) (g.M.WriteMutations.taken l.fn.sink) (g.M.WriteMutations.taken l.sink)
      l.reports (map input_of (into_iter_items l.input-iterator)) l.taken l.machine
      × Sofar (map input_of l.fn.inputs) (map input_of (into_iter_items l.input-iterator)) l.taken l.reports;
  count : into_iter_len l.input-iterator ≡ length (into_iter_items l.input-iterator);
}
