use Rattle.std.proofs.Common.{refl}
use Rattle.rt_sched.proofs.KeptLemmas.{orders_without, kept_forgotten}
use Rattle.rt_sched.proofs.queues.Queues.forget_scope.Goals as goal

pub invariant_of-self : goal.invariant_of-self
invariant_of-self g c =
    kept_forgotten c.self.inside.scopes c.self.inside.tasks c.forget.new.self c.forget_tasks_of.new.tasks c.args.id.0 c.self.invariant c.forget.ensures.forgotten c.forget_tasks_of.ensures.forgotten

pub returns : goal.returns
returns g c =
    let s = c.self.inside.scopes in
    let n = c.args.id.0 in
    let kept = c.self.invariant in
    record { forgotten = rw (← c.self.view_is) (rw (c.forget.ensures.forgotten, c.forget_tasks_of.ensures.forgotten, c.forget-2.ensures.gone, orders_without n s.entered kept.entered_tagged, orders_without n s.ready kept.ready_tagged, orders_without n s.posted kept.posted_tagged) refl) }
