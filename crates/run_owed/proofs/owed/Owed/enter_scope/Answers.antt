-- One more scope, past all that were entered.
use Rattle.std.proofs.Common.{◌≡◌, ap}
use Rattle.rt_sched.proofs.PlaceLemmas.{order_by_parts}
use Rattle.run_owed.specs.Changes.{owing_by}
use Rattle.run_owed.proofs.Entered.{order_with}
use Rattle.run_owed.proofs.Stood.{stood_scope}
use Rattle.run_owed.proofs.owed.Owed.enter_scope.Goals as goal

pub invariant_of-self : goal.invariant_of-self
invariant_of-self c = rw c.in_err-enter_scope.ensures.err c.self.invariant

pub invariant_of-self-2 : goal.invariant_of-self-2
invariant_of-self-2 c =
    let order : c.in-Some.entry.0 ≡ order_with c.args.height c.args.scope = order_by_parts c.in-Some.entry.0 (order_with c.args.height c.args.scope) c.in-Some.ensures.height c.in-Some.ensures.id in
    rw (c.tell.ensures, c.in_ok-enter_scope.ensures.ok, order, c.in-Some.ensures.after)
    (stood_scope (owing_by c.self.inside.told) c.self.inside.queues c.self.inside.next c.self.invariant c.args.scope c.args.height c.in-Some.ensures.fresh)

pub returns-clause-ok : goal.returns-clause-ok
returns-clause-ok c = rw (← c.self.view_is) (ap owing_by c.tell.ensures)
