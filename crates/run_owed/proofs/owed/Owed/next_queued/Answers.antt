-- As the line has it.
use Rattle.std.proofs.Common.{ap, ◌∙◌}
use Rattle.run_owed.specs.Changes.{owing_by}
use Rattle.run_owed.specs.Orders.{first_number}
use Rattle.run_owed.specs.Owing.{Owing}
use Rattle.run_owed.specs.Stands.{queued_in_turn}
use Rattle.run_owed.proofs.Firsts.{none_first, queued_next, task_first}
use Rattle.run_owed.proofs.Owned.{named}
use Rattle.run_owed.proofs.owed.Owed.next_queued.Goals as goal

pub returns-in_err-task : goal.returns-in_err-task
returns-in_err-task c =
    let by = queued_next (owing_by c.self.inside.told) c.self.inside.queues c.self.inside.next c.self.invariant in
    let none = none_first named (first_number (queued_in_turn (owing_by c.self.inside.told))) (c.in_err-task.ensures.first ∙ by) in
    record { first = c.from_residual.ensures ∙ none ∙ ap (λ (p : Owing). first_number (queued_in_turn p)) c.self.view_is }

pub returns : goal.returns
returns c =
    let by = queued_next (owing_by c.self.inside.told) c.self.inside.queues c.self.inside.next c.self.invariant in
    let found = task_first c.in_ok-task.task (first_number (queued_in_turn (owing_by c.self.inside.told))) (c.in_ok-task.ensures.first ∙ by) in
    record { first = found ∙ ap (λ (p : Owing). first_number (queued_in_turn p)) c.self.view_is }
