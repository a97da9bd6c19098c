use Rattle.std.proofs.Common.{◌≡◌, refl, ap}
use Rattle.rt_values.specs.declared.names.ScopeId.{ScopeId}
use Rattle.rt_sched.proofs.KeptLemmas.{orders_with_waiting, kept_entered}
use Rattle.rt_sched.proofs.queues.Queues.enter_scope.Goals as goal

pub invariant_of-self : goal.invariant_of-self
invariant_of-self g c = rw c.in_err-enter.ensures.err c.self.invariant

pub invariant_of-self-2 : goal.invariant_of-self-2
invariant_of-self-2 g c =
    let number : c.id.result.0 ≡ c.args.order.id.0 = ap (λ (i : ScopeId). i.0) c.id.ensures.id in
    kept_entered c.self.inside.scopes c.self.inside.tasks c.enter.new.self c.id.result.0 c.args.order c.self.invariant number c.in_ok-enter.ensures.ok

pub returns-clause-ok : goal.returns-clause-ok
returns-clause-ok g c =
    let number : c.id.result.0 ≡ c.args.order.id.0 = ap (λ (i : ScopeId). i.0) c.id.ensures.id in
    let orders = orders_with_waiting c.args.order c.id.result.0 c.self.inside.scopes.entered number c.self.invariant.entered_tagged in
    rw (← c.self.view_is) (rw (c.in_ok-enter.ensures.ok, orders) refl)
