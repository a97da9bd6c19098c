-- A line is its numbers sorted.
use Rattle.std.proofs.Common.{◌≡◌, map, subst}
use Rattle.rt_model.specs.Next.{sorted_by}
use Rattle.rt_sched.specs.Queues.{lesser_work, next_work}
use Rattle.run_owed.specs.Changes.{owing_by}
use Rattle.run_owed.specs.Orders.{scope_rank, sooner, task_rank}
use Rattle.run_owed.specs.Owing.{Owing}
use Rattle.run_owed.specs.Stands.{entered_order, least_queued, least_seen, owner_order, queued_line, seen_orders, under}
use Rattle.run_owed.proofs.Firsts.{queued_sorted, seen_sorted, work_least}
use Rattle.run_owed.proofs.owed.Owed.stand_sorted.Goals as goal

pub returns : goal.returns
returns c =
    record {
      seen =
          subst (λ (p : Owing). seen_orders p ≡ map (entered_order p.scopes) (sorted_by (sooner (scope_rank p.scopes)) p.seen)) c.self.view_is
          (seen_sorted (owing_by c.self.inside.told) c.self.inside.queues c.self.inside.next c.self.invariant);
      queued =
          subst (λ (p : Owing). queued_line p ≡ map (under (owner_order p.scopes p.tasks)) (sorted_by (sooner (task_rank p.scopes p.tasks)) p.queued)) c.self.view_is
          (queued_sorted (owing_by c.self.inside.told) c.self.inside.queues c.self.inside.next c.self.invariant);
      next =
          subst (λ (p : Owing). next_work (seen_orders p) (queued_line p) ≡ lesser_work (least_seen p) (least_queued p)) c.self.view_is
          (work_least (owing_by c.self.inside.told) c.self.inside.queues c.self.inside.next c.self.invariant);
    }
