use Rattle.std.proofs.Common.{ap, sym, ◌∙◌}
use Rattle.rt_sched.specs.Queues.{Waiting, has_scope}
use Rattle.rt_sched.proofs.KeptLemmas.{has_scope_waits}
use Rattle.rt_sched.proofs.queues.Queues.is_seen.Goals as goal

pub returns : goal.returns
returns g c =
    record {
      seen = c.is_ready.ensures.ready
          ∙ sym (has_scope_waits c.args.id.0 c.self.inside.scopes.ready c.self.invariant.ready_tagged)
          ∙ ap (λ (q : Waiting g.row.E.Denot). has_scope c.args.id.0 q.seen) c.self.view_is;
    }
