-- The first task of a scope is the one that was entered first.
use Rattle.std.proofs.Common.{ap, ◌∙◌}
use Rattle.run_owed.specs.Changes.{owing_by}
use Rattle.run_owed.specs.Lists.{first_with}
use Rattle.run_owed.specs.Owing.{Owing}
use Rattle.run_owed.proofs.Firsts.{none_first, task_first, task_first_of}
use Rattle.run_owed.proofs.Owned.{named}
use Rattle.run_owed.proofs.owed.Owed.first_task.Goals as goal

pub returns-in_err-task : goal.returns-in_err-task
returns-in_err-task c =
    let by = task_first_of (owing_by c.self.inside.told) c.self.inside.queues c.self.inside.next c.self.invariant c.args.scope in
    let none = none_first named (first_with c.args.scope (owing_by c.self.inside.told).tasks) (c.in_err-task.ensures.first ∙ by) in
    record { first = c.from_residual.ensures ∙ none ∙ ap (λ (p : Owing). first_with c.args.scope p.tasks) c.self.view_is }

pub returns : goal.returns
returns c =
    let by = task_first_of (owing_by c.self.inside.told) c.self.inside.queues c.self.inside.next c.self.invariant c.args.scope in
    let found = task_first c.in_ok-task.task (first_with c.args.scope (owing_by c.self.inside.told).tasks) (c.in_ok-task.ensures.first ∙ by) in
    record { first = found ∙ ap (λ (p : Owing). first_with c.args.scope p.tasks) c.self.view_is }
