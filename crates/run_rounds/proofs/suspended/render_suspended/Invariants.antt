-- The units so far are units of the render, whose edits were taken.
use Rattle.std.specs.Prelude.{false}
use Rattle.run_reports.specs.Seen.{limits_of}
use Rattle.law_behavior.specs.Doms.{LedTo}
use Rattle.run_rounds.specs.Rounds.{RestsAt}
use Rattle.run_rounds.specs.Suspended.{RenderingOn, TookSome}
use Rattle.run_rounds.proofs.suspended.render_suspended.Given as goal

abbrev pub invariant-loop-unit : goal.invariant-loop-unit
invariant-loop-unit g l = record {
  took : TookSome (g.M.WriteMutations.taken l.fn.sink) (g.M.WriteMutations.taken l.sink) (g.M.WriteMutations.faults l.fn.sink) (g.M.WriteMutations.faults l.sink);
  on :
      (props : _) (w : _)
      → RestsAt w l.fn.machine l.fn.calls
      → LedTo (g.A.App.meaning l.app) (limits_of l.fn.limits) props false w
      → RenderingOn (g.A.App.meaning l.app) (limits_of l.fn.limits) props w (g.M.WriteMutations.taken l.fn.sink) (g.M.WriteMutations.taken l.sink) l.units l.machine l.calls;
}
