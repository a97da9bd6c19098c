use Rattle.std.proofs.Common.{◌∙◌}
use Rattle.std.specs.Fn.{FnOnceReturnsAtMut}
use Rattle.run_state.specs.Heights.{task_scope}
use Rattle.run_state.proofs.Unchanged.{task_surely, values_changed}
use Rattle.run_state.proofs.state.State.change_surely.Goals as goal

pub returns : goal.returns
returns g c =
    λ k step.
    task_surely
    (λ x y. FnOnceReturnsAtMut g.F.FnOnce c.args.apply x c.change-done.result y)
    c.args.self.now
    c.change-done.new.self
    c.args.task
    k.code
    k.model
    c.change-done.ensures.absent
    c.change-done.ensures.changed
    (λ x y ret. step x y c.change-done.result ret)
    k.same

pub invariant_of-self-clause-known : goal.invariant_of-self-clause-known
invariant_of-self-clause-known g c =
    values_changed task_scope (λ x y. FnOnceReturnsAtMut g.F.FnOnce c.args.apply x c.change-done.result y) c.args.self.now.tasks c.change-done.new.self c.args.task c.change-done.ensures.absent c.change-done.ensures.changed
    (λ x y ret. c.requires.stay x y c.change-done.result ret)
    ∙ c.args.self.now.known
