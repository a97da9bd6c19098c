-- One more wake, under the order of an entered task.
use Rattle.std.proofs.Common.{◌≡◌, true, ap, sym, ◌∙◌}
use Rattle.rt_model.specs.Lists.{has}
use Rattle.run_owed.specs.Changes.{owing_by}
use Rattle.run_owed.specs.Lists.{numbers_of}
use Rattle.run_owed.specs.Owing.{Owing}
use Rattle.run_owed.specs.Stands.{owner_order}
use Rattle.run_owed.proofs.Firsts.{task_found, task_stands}
use Rattle.run_owed.proofs.Stood.{stood_woken}
use Rattle.run_owed.proofs.owed.Owed.post_wake.Goals as goal

pub post_task-done-requires : goal.post_task-done-requires
post_task-done-requires c =
    let o = owing_by c.self.inside.told in
    let live : has (numbers_of o.tasks) c.args.task ≡ true = ap (λ (p : Owing). has (numbers_of p.tasks) c.args.task) c.self.view_is ∙ c.requires.entered in
    let found = task_found o c.self.inside.queues c.self.inside.next c.self.invariant c.args.task live in
    let own : owner_order o.scopes o.tasks c.args.task ≡ c.in-Some.order = cc in
    record { entered = rw (← own) (task_stands o c.self.inside.queues c.self.inside.next c.self.invariant c.args.task live) }

pub invariant_of-self : goal.invariant_of-self
invariant_of-self c =
    let o = owing_by c.self.inside.told in
    let live : has (numbers_of o.tasks) c.args.task ≡ true = ap (λ (p : Owing). has (numbers_of p.tasks) c.args.task) c.self.view_is ∙ c.requires.entered in
    let found = task_found o c.self.inside.queues c.self.inside.next c.self.invariant c.args.task live in
    let own : owner_order o.scopes o.tasks c.args.task ≡ c.in-Some.order = cc in
    rw (c.tell.ensures, c.post_task-done.ensures.posted, ← own) (stood_woken o c.self.inside.queues c.self.inside.next c.self.invariant c.args.task live)

pub returns-in-Some : goal.returns-in-Some
returns-in-Some c = record { posted = rw (← c.self.view_is) (ap owing_by c.tell.ensures) }

pub returns-in_default : goal.returns-in_default
returns-in_default c =
    let o = owing_by c.self.inside.told in
    let live : has (numbers_of o.tasks) c.args.task ≡ true = ap (λ (p : Owing). has (numbers_of p.tasks) c.args.task) c.self.view_is ∙ c.requires.entered in
    let found = task_found o c.self.inside.queues c.self.inside.next c.self.invariant c.args.task live in
    absurd (cc (sym found ∙ sym c.in_default.ensures.order))
