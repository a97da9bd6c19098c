-- The edits of the turns so far were taken, and the call stands with them; no unit began where its test holds. What is known of scopes holds.
use Rattle.run_reports.specs.Seen.{limits_of}
use Rattle.run_outside.specs.Ends.{Took}
use Rattle.run_machine.specs.Stands.{StandsAt, counting}
use Rattle.run_rounds.specs.Going.{GoneOn}
use Rattle.run_answers.specs.Untils.{until_of}
use Rattle.rt_scopes.specs.Knowing.{Knows}
use Rattle.run_state.specs.Mirror.{state_of}
use Rattle.run_rounds.proofs.running.go_on.Given as goal

abbrev pub invariant-loop-turn : goal.invariant-loop-turn
invariant-loop-turn g l = record {
  took : Took (g.M.WriteMutations.taken l.fn.sink) (g.M.WriteMutations.taken l.sink) (g.M.WriteMutations.faults l.fn.sink) (g.M.WriteMutations.faults l.sink) l.edits;
  on :
      (r : _) (edits : _)
      → StandsAt (g.A.App.meaning l.app) (limits_of l.fn.limits) (counting r l.fn.calls) edits l.fn.machine
      → GoneOn (g.A.App.meaning l.app) (limits_of l.fn.limits) (counting r l.calls) (until_of l.fn.until) edits (g.M.WriteMutations.taken l.fn.sink) (g.M.WriteMutations.taken l.sink) l.edits l.fn.machine l.machine;
  knows : (kept : _) → Knows (state_of kept l.machine.scopes.state) l.known.rows.items;
}
