use Rattle.std.proofs.Common.{◌≡◌, ap, ◌∙◌}
use Rattle.rt_values.specs.declared.names.ScopeId.{ScopeId}
use Rattle.rt_sched.specs.Rosters.{stands_under}
use Rattle.rt_sched.specs.Queues.{Waiting, has_order}
use Rattle.rt_sched.proofs.KeptLemmas.{stands_has_order}
use Rattle.rt_sched.proofs.queues.Queues.has_scope.Goals as goal

pub returns : goal.returns
returns g c =
    let s = c.self.inside.scopes in
    let number : c.id.result.0 ≡ c.args.order.id.0 = ap (λ (i : ScopeId). i.0) c.id.ensures.id in
    record { entered = c.has.ensures.has ∙ ap (λ n. stands_under n c.args.order s.entered) number ∙ stands_has_order c.args.order s.entered c.self.invariant.entered_tagged ∙ ap (λ (q : Waiting g.row.E.Denot). has_order c.args.order q.scopes) c.self.view_is }
