use Rattle.std.proofs.Common.{◌≡◌, ◌∙◌, ap, sym}
use Rattle.run_state.specs.Mirror.{state_of}
use Rattle.run_state.specs.declared.names.Cause.TheVariants.{NoSuchTask}
use Rattle.run_state.proofs.CellsKept.{some_is, none_is}
use Rattle.run_state.proofs.Raises.{suspends_nowhere, suspends_done}
use Rattle.run_state.proofs.state.State.suspends_on.Goals as goal

pub returns-then-not-has_task-clause-cut : goal.returns-then-not-has_task-clause-cut
returns-then-not-has_task-clause-cut g c =
    λ what is kept.
    let same : NoSuchTask c.args.scope c.args.task ≡ what = cc in
    rw (← same) (suspends_nowhere (state_of kept c.args.self.now) c.args.scope c.args.origin c.args.task (none_is _ (sym (c.has_task.ensures kept) ∙ c.if-not-has_task.true)))

pub returns-clause-done : goal.returns-clause-done
returns-clause-done g c =
    λ kept.
    let found = some_is _ (sym (c.has_task.ensures kept) ∙ c.if-not-has_task.false) in
    suspends_done (state_of kept c.args.self.now) (state_of kept c.suspend.new.self) (state_of kept c.joins.new.self) c.args.scope c.args.origin c.args.task found.0 _ found.1
    (c.in_ok-suspend.ensures kept) (c.location-location.ensures kept) (c.in_ok-joins.ensures kept)
