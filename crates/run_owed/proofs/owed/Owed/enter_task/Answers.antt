-- One more task, under the order of its scope.
use Rattle.std.proofs.Common.{◌≡◌, true, false, refl, ap, sym, ◌∙◌}
use Rattle.std.specs.Prelude.{None, Some, Option, is_some}
use Rattle.rt_model.specs.Lists.{has}
use Rattle.rt_sched.specs.Lines.{order_in}
use Rattle.rt_sched.specs.declared.order.ScopeOrder.{ScopeOrder}
use Rattle.run_owed.specs.Changes.{owing_by}
use Rattle.run_owed.specs.Lists.{numbers_of}
use Rattle.run_owed.specs.Owing.{Owing}
use Rattle.run_owed.specs.Stands.{entered_order}
use Rattle.run_owed.proofs.Firsts.{scope_found, scope_stands, task_fresh}
use Rattle.run_owed.proofs.Stood.{stood_task}
use Rattle.run_owed.proofs.owed.Owed.enter_task.Goals as goal

no_order : (o : Option ScopeOrder) → is_some o ≡ false → o ≡ None
no_order o none = elim o as (λ p. is_some p ≡ false → p ≡ None) [ None ↦ λ _. refl | Some p ↦ λ q. absurd (cc q) ] none

pub enter_task-requires : goal.enter_task-requires
enter_task-requires c =
    let o = owing_by c.self.inside.told in
    let live : has (numbers_of o.scopes) c.args.scope ≡ true = ap (λ (p : Owing). has (numbers_of p.scopes) c.args.scope) c.self.view_is ∙ c.requires.entered in
    let found = scope_found o c.self.inside.queues c.self.inside.next c.self.invariant c.args.scope live in
    let own : entered_order o.scopes c.args.scope ≡ c.in-Some.order = cc in
    record { entered = rw (← own) (scope_stands o c.self.inside.queues c.self.inside.next c.self.invariant c.args.scope live) }

pub invariant_of-self : goal.invariant_of-self
invariant_of-self c = rw c.in_err-enter_task.ensures.err c.self.invariant

pub invariant_of-self-2 : goal.invariant_of-self-2
invariant_of-self-2 c =
    let o = owing_by c.self.inside.told in
    let live : has (numbers_of o.scopes) c.args.scope ≡ true = ap (λ (p : Owing). has (numbers_of p.scopes) c.args.scope) c.self.view_is ∙ c.requires.entered in
    let found = scope_found o c.self.inside.queues c.self.inside.next c.self.invariant c.args.scope live in
    let own : entered_order o.scopes c.args.scope ≡ c.in-Some.order = cc in
    let none : order_in c.args.task c.self.inside.queues.tasks ≡ None = sym c.task_order.ensures.order ∙ no_order c.task_order.result (sym c.is_some.ensures ∙ c.if-is_some.false) in
    let fresh = task_fresh o c.self.inside.queues c.self.inside.next c.self.invariant c.args.task none in
    rw (c.tell.ensures, c.in_ok-enter_task.ensures.ok, ← own) (stood_task o c.self.inside.queues c.self.inside.next c.self.invariant c.args.task c.args.scope live fresh)

pub returns-clause-ok : goal.returns-clause-ok
returns-clause-ok c = rw (← c.self.view_is) (ap owing_by c.tell.ensures)
