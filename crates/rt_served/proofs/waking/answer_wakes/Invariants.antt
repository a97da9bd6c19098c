-- The wakes before were answered, and their pieces counted.
use Rattle.std.proofs.Common.{◌≤◌, false, take}
use Rattle.rt_served.specs.Stood.{AnsweredDone, Keeping}
use Rattle.rt_served.proofs.Answering.{tasks_of}
use Rattle.rt_served.proofs.waking.answer_wakes.Given as goal

abbrev pub invariant-loop-task : goal.invariant-loop-task
invariant-loop-task g l = record {
  on :
      (app : _) (limits : _) (props : _) (w : _)
      → Keeping (λ app. g.A.App.meaning app) app limits props false w l.fn.dom
      → AnsweredDone (λ app. g.A.App.meaning app) app limits props w (tasks_of (take l.task-index l.wakes)) l.dom
      (g.O.Out.puts l.fn.out) (g.O.Out.puts l.out) l.count;
  rises : g.O.Out.faults l.fn.out ≤ g.O.Out.faults l.out;
}
