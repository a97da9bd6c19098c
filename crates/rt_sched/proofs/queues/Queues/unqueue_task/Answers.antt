use Rattle.rt_sched.proofs.KeptLemmas.{of_scopes_without, kept_tasks}
use Rattle.rt_sched.proofs.queues.Queues.unqueue_task.Goals as goal

pub invariant_of-self : goal.invariant_of-self
invariant_of-self g c =
    let s = c.self.inside.scopes in
    let t = c.self.inside.tasks in
    let kept = c.self.invariant in
    rw c.withdraw.ensures.withdrawn (kept_tasks s t _ kept kept.of_scopes (of_scopes_without c.args.task.0 s.entered t.ready kept.ready_of_scopes) kept.posted_of_scopes)
