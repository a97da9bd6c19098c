use Rattle.std.proofs.Common.{refl, ◌∙◌}
use Rattle.rt_sched.specs.Queues.{next_work}
use Rattle.run_owed.specs.Stands.{queued_line, seen_orders}
use Rattle.run_state.proofs.Agreed.{queues_stand, up_found}
use Rattle.run_state.proofs.state.State.queues_agree.Goals as goal

pub returns : goal.returns
returns g c =
    record {
      orders = λ s t. refl;
      stand = λ kept. queues_stand kept c.args.self.now c.stand_sorted.ensures.seen c.stand_sorted.ensures.queued;
      next = λ kept. up_found kept c.args.self.now (next_work (seen_orders c.args.self.now.owed) (queued_line c.args.self.now.owed)) c.stand_sorted.ensures.next;
    }
