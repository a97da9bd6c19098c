use Rattle.std.proofs.Common.{refl}
use Rattle.rt_sched.proofs.KeptLemmas.{orders_without, tagged_without, kept_scopes}
use Rattle.rt_sched.proofs.queues.Queues.unsee_scope.Goals as goal

pub invariant_of-self : goal.invariant_of-self
invariant_of-self g c =
    let s = c.self.inside.scopes in
    let kept = c.self.invariant in
    rw c.withdraw.ensures.withdrawn (kept_scopes s c.self.inside.tasks _ kept refl (tagged_without c.args.id.0 s.ready kept.ready_tagged) kept.posted_tagged)

pub returns : goal.returns
returns g c =
    let s = c.self.inside.scopes in
    record { unseen = rw (← c.self.view_is) (rw (c.withdraw.ensures.withdrawn, orders_without c.args.id.0 s.ready c.self.invariant.ready_tagged) refl) }
