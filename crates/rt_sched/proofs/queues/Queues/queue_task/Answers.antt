use Rattle.std.proofs.Common.{◌≡◌, true, ap}
use Rattle.rt_sched.specs.Rosters.{stands_under}
use Rattle.rt_sched.specs.Queues.{Waiting}
use Rattle.rt_sched.proofs.KeptLemmas.{of_scopes_with_waiting, stands_of_scopes, kept_tasks}
use Rattle.rt_sched.proofs.queues.Queues.queue_task.Goals as goal

pub invariant_of-self : goal.invariant_of-self
invariant_of-self g c =
    let s = c.self.inside.scopes in
    let t = c.self.inside.tasks in
    let kept = c.self.invariant in
    let stands : stands_under c.args.task.0 c.args.order t.entered ≡ true = rw (ap (λ (q : Waiting g.row.E.Denot). q.tasks) c.self.view_is) c.requires.entered in
    let order = stands_of_scopes c.args.task.0 c.args.order s.entered t.entered kept.of_scopes stands in
    let more = of_scopes_with_waiting c.args.task.0 c.args.order s.entered t.ready kept.ready_of_scopes order in
    rw c.push.ensures.ready (kept_tasks s t _ kept kept.of_scopes more kept.posted_of_scopes)
