use Rattle.std.proofs.Common.{◌≡◌, true, refl, ap}
use Rattle.rt_values.specs.declared.names.ScopeId.{ScopeId}
use Rattle.rt_sched.specs.Lines.{orders_of}
use Rattle.rt_sched.specs.Queues.{Waiting, has_order}
use Rattle.rt_sched.proofs.KeptLemmas.{orders_with_waiting, tagged_with_waiting, has_order_stands, kept_scopes}
use Rattle.rt_sched.proofs.queues.Queues.post_scope.Goals as goal

pub post-requires : goal.post-requires
post-requires g c =
    let number : c.id.result.0 ≡ c.args.order.id.0 = ap (λ (i : ScopeId). i.0) c.id.ensures.id in
    let kept = c.self.invariant in
    let entered : has_order c.args.order (orders_of c.self.inside.scopes.entered) ≡ true = rw (ap (λ (q : Waiting g.row.E.Denot). q.scopes) c.self.view_is) c.requires.entered in
    record { entered = rw number (has_order_stands c.args.order c.self.inside.scopes.entered kept.entered_tagged entered) }

pub invariant_of-self : goal.invariant_of-self
invariant_of-self g c =
    let number : c.id.result.0 ≡ c.args.order.id.0 = ap (λ (i : ScopeId). i.0) c.id.ensures.id in
    let s = c.self.inside.scopes in
    let kept = c.self.invariant in
    let tagged = tagged_with_waiting c.args.order c.id.result.0 s.posted number kept.posted_tagged in
    kept_scopes s c.self.inside.tasks c.post.new.self kept (rw c.post.ensures.posted refl) (rw c.post.ensures.posted kept.ready_tagged) (rw c.post.ensures.posted tagged)

pub returns-clause-posted : goal.returns-clause-posted
returns-clause-posted g c =
    let number : c.id.result.0 ≡ c.args.order.id.0 = ap (λ (i : ScopeId). i.0) c.id.ensures.id in
    let s = c.self.inside.scopes in
    let orders = orders_with_waiting c.args.order c.id.result.0 s.posted number c.self.invariant.posted_tagged in
    rw (← c.self.view_is) (rw (c.post.ensures.posted, orders) refl)

pub returns-clause-ok : goal.returns-clause-ok
returns-clause-ok g c = refl
