-- A scope of which nothing waits but marks leaves the queues.
use Rattle.std.proofs.Common.{◌≡◌, false, ap, ◌∙◌}
use Rattle.std.specs.Prelude.{None}
use Rattle.rt_model.specs.Lists.{has}
use Rattle.rt_sched.specs.Batches.{without_batch}
use Rattle.run_owed.specs.Changes.{owing_by}
use Rattle.run_owed.specs.Lists.{first_with}
use Rattle.run_owed.specs.Owing.{Owing}
use Rattle.run_owed.proofs.Stood.{stood_left}
use Rattle.run_owed.proofs.owed.Owed.leave_scope.Goals as goal

pub invariant_of-self : goal.invariant_of-self
invariant_of-self c =
    let unseen : has (owing_by c.self.inside.told).seen c.args.scope ≡ false = ap (λ (p : Owing). has p.seen c.args.scope) c.self.view_is ∙ c.requires.unseen in
    let no_tasks : first_with c.args.scope (owing_by c.self.inside.told).tasks ≡ None = ap (λ (p : Owing). first_with c.args.scope p.tasks) c.self.view_is ∙ c.requires.no_tasks in
    rw (c.tell.ensures, c.forget_scope.ensures.forgotten) (stood_left (owing_by c.self.inside.told) c.self.inside.queues c.self.inside.next c.self.invariant c.args.scope (without_batch c.args.scope c.self.inside.queues.effects) unseen no_tasks)

pub returns : goal.returns
returns c = record { scopes = rw (← c.self.view_is) (ap owing_by c.tell.ensures) }
