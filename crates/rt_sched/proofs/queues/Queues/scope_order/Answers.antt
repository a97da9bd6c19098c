use Rattle.std.proofs.Common.{ap, ◌∙◌}
use Rattle.rt_sched.specs.Queues.{Waiting, scope_order}
use Rattle.rt_sched.proofs.Firsts.{scope_order_in}
use Rattle.rt_sched.proofs.queues.Queues.scope_order.Goals as goal

pub returns : goal.returns
returns g c =
    record {
      order = c.order_of.ensures.order
          ∙ scope_order_in c.args.id.0 c.self.inside.scopes.entered c.self.invariant.entered_tagged
          ∙ ap (λ (q : Waiting g.row.E.Denot). scope_order c.args.id.0 q.scopes) c.self.view_is;
    }
