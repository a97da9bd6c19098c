use Rattle.std.proofs.Common.{◌∙◌}
use Rattle.std.specs.Fn.{FnOnceReturnsAtMut}
use Rattle.run_state.proofs.Changed.{task_changed}
use Rattle.run_state.specs.Heights.{task_scope}
use Rattle.run_state.proofs.Unchanged.{values_changed}
use Rattle.run_state.proofs.state.State.change_task.Goals as goal

pub returns : goal.returns
returns g c =
    λ k step.
    task_changed
    c.change.result
    (λ x y. FnOnceReturnsAtMut g.F.FnOnce c.args.apply x c.change.result y)
    c.args.self.now
    c.change.new.self
    c.args.task
    k.code
    k.model
    c.change.ensures.absent
    c.change.ensures.changed
    step
    k.same

pub invariant_of-self-clause-known : goal.invariant_of-self-clause-known
invariant_of-self-clause-known g c =
    values_changed task_scope (λ x y. FnOnceReturnsAtMut g.F.FnOnce c.args.apply x c.change.result y) c.args.self.now.tasks c.change.new.self c.args.task c.change.ensures.absent c.change.ensures.changed
    (λ x y ret. c.requires.stay x y c.change.result ret)
    ∙ c.args.self.now.known
