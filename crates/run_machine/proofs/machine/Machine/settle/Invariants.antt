-- The edits of the turns so far were taken, and the session stands with them.
use Rattle.std.proofs.Common.{◌≡◌}
use Rattle.run_reports.specs.Seen.{limits_of}
use Rattle.run_outside.specs.Ends.{Took}
use Rattle.run_machine.specs.Stands.{StandsAt, GoesOn, counting}
use Rattle.rt_scopes.specs.Knowing.{Knows}
use Rattle.run_state.specs.Mirror.{state_of}
use Rattle.run_machine.proofs.machine.Machine.settle.Given as goal

abbrev pub invariant-loop-turn : goal.invariant-loop-turn
invariant-loop-turn g l = record {
  took : Took (g.M.WriteMutations.taken l.fn.sink) (g.M.WriteMutations.taken l.sink) (g.M.WriteMutations.faults l.fn.sink) (g.M.WriteMutations.faults l.sink) l.edits;
  on :
      (r : _) (edits : _)
      → StandsAt (g.A.App.meaning l.app) (limits_of l.fn.limits) (counting r l.fn.calls) edits l.fn.self
      → GoesOn (g.A.App.meaning l.app) (limits_of l.fn.limits) (counting r l.calls) edits (g.M.WriteMutations.taken l.fn.sink) (g.M.WriteMutations.taken l.sink) l.edits l.self;
  knows : (kept : _) → Knows (state_of kept l.self.scopes.state) l.known.rows.items;
}
