-- What the queues answer is the lesser of the least.
use Rattle.std.proofs.Common.{ap, ◌∙◌}
use Rattle.rt_sched.specs.Queues.{lesser_work, next_work}
use Rattle.run_owed.specs.Changes.{owing_by}
use Rattle.run_owed.specs.Owing.{Owing}
use Rattle.run_owed.specs.Stands.{least_queued, least_seen, queued_line, seen_orders}
use Rattle.run_owed.proofs.Firsts.{work_held, work_least}
use Rattle.run_owed.proofs.owed.Owed.next_work.Goals as goal

pub returns : goal.returns
returns c =
    let by = c.next_work.ensures.work ∙ work_held (owing_by c.self.inside.told) c.self.inside.queues c.self.inside.next c.self.invariant in
    record {
      queues = by ∙ ap (λ (p : Owing). next_work (seen_orders p) (queued_line p)) c.self.view_is;
      least = by
          ∙ work_least (owing_by c.self.inside.told) c.self.inside.queues c.self.inside.next c.self.invariant
          ∙ ap (λ (p : Owing). lesser_work (least_seen p) (least_queued p)) c.self.view_is;
    }
