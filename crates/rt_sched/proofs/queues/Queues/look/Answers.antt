use Rattle.std.proofs.Common.{refl}
use Rattle.rt_sched.specs.Kept.{AreKept}
use Rattle.rt_sched.proofs.KeptLemmas.{orders_all, tagged_all, of_scopes_all, kept_scopes, kept_tasks}
use Rattle.rt_sched.proofs.queues.Queues.look.Goals as goal

pub invariant_of-self : goal.invariant_of-self
invariant_of-self g c =
    let s = c.self.inside.scopes in
    let t = c.self.inside.tasks in
    let kept = c.self.invariant in
    let scopes : AreKept c.look.new.self t = rw c.look.ensures.looked (kept_scopes s t _ kept refl (tagged_all s.posted s.ready kept.posted_tagged kept.ready_tagged) tt) in
    rw c.look-2.ensures.looked (kept_tasks c.look.new.self t _ scopes scopes.of_scopes (of_scopes_all c.look.new.self.entered t.posted t.ready scopes.posted_of_scopes scopes.ready_of_scopes) tt)

pub returns-clause-looked : goal.returns-clause-looked
returns-clause-looked g c =
    let s = c.self.inside.scopes in
    let kept = c.self.invariant in
    rw (← c.self.view_is) (rw (c.look.ensures.looked, c.look-2.ensures.looked, orders_all s.posted s.ready kept.posted_tagged kept.ready_tagged) refl)
