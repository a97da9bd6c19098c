use Rattle.std.proofs.Common.{◌≡◌, true, ap}
use Rattle.rt_sched.specs.Lines.{orders_of}
use Rattle.rt_sched.specs.Queues.{Waiting, has_order}
use Rattle.rt_sched.proofs.KeptLemmas.{entered_order, of_scopes_with_waiting, kept_tasks}
use Rattle.rt_sched.proofs.queues.Queues.enter_task.Goals as goal

pub invariant_of-self : goal.invariant_of-self
invariant_of-self g c = rw c.in_err-enter.ensures.err c.self.invariant

pub invariant_of-self-2 : goal.invariant_of-self-2
invariant_of-self-2 g c =
    let s = c.self.inside.scopes in
    let t = c.self.inside.tasks in
    let kept = c.self.invariant in
    let entered : has_order c.args.order (orders_of s.entered) ≡ true = rw (ap (λ (q : Waiting g.row.E.Denot). q.scopes) c.self.view_is) c.requires.entered in
    let order = entered_order c.args.order s.entered kept.entered_tagged kept.scopes_under entered in
    rw c.in_ok-enter.ensures.ok (kept_tasks s t _ kept (of_scopes_with_waiting c.args.task.0 c.args.order s.entered t.entered kept.of_scopes order) kept.ready_of_scopes kept.posted_of_scopes)
