use Rattle.std.proofs.Common.{refl}
use Rattle.rt_sched.proofs.KeptLemmas.{orders_without, tagged_without, kept_scopes}
use Rattle.rt_sched.proofs.queues.Queues.start_scope.Goals as goal

pub invariant_of-self : goal.invariant_of-self
invariant_of-self g c =
    let s = c.self.inside.scopes in
    let n = c.args.id.0 in
    let kept = c.self.invariant in
    rw c.start.ensures.started (kept_scopes s c.self.inside.tasks _ kept refl (tagged_without n s.ready kept.ready_tagged) (tagged_without n s.posted kept.posted_tagged))

pub returns : goal.returns
returns g c =
    let s = c.self.inside.scopes in
    let n = c.args.id.0 in
    let kept = c.self.invariant in
    record { started = rw (← c.self.view_is) (rw (c.start.ensures.started, orders_without n s.ready kept.ready_tagged, orders_without n s.posted kept.posted_tagged) refl) }
