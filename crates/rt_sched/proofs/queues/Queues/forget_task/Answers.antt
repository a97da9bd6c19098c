use Rattle.rt_sched.proofs.KeptLemmas.{of_scopes_without, kept_tasks}
use Rattle.rt_sched.proofs.queues.Queues.forget_task.Goals as goal

pub invariant_of-self : goal.invariant_of-self
invariant_of-self g c =
    let s = c.self.inside.scopes in
    let t = c.self.inside.tasks in
    let n = c.args.task.0 in
    let kept = c.self.invariant in
    rw c.forget.ensures.forgotten (kept_tasks s t _ kept (of_scopes_without n s.entered t.entered kept.of_scopes) (of_scopes_without n s.entered t.ready kept.ready_of_scopes) (of_scopes_without n s.entered t.posted kept.posted_of_scopes))
