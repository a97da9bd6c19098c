-- As the line has it.
use Rattle.std.proofs.Common.{ap, ◌∙◌}
use Rattle.run_owed.specs.Changes.{owing_by}
use Rattle.run_owed.specs.Orders.{first_number}
use Rattle.run_owed.specs.Owing.{Owing}
use Rattle.run_owed.specs.Stands.{behind_number, queued_in_turn}
use Rattle.run_owed.proofs.Firsts.{none_first, queued_after, task_first}
use Rattle.run_owed.proofs.Owned.{named}
use Rattle.run_owed.proofs.owed.Owed.queued_behind.Goals as goal

pub returns-in_err-next : goal.returns-in_err-next
returns-in_err-next c =
    let by = queued_after (owing_by c.self.inside.told) c.self.inside.queues c.self.inside.next c.self.invariant c.args.task in
    let none = none_first named (first_number (behind_number c.args.task (queued_in_turn (owing_by c.self.inside.told)))) (c.in_err-next.ensures.first ∙ by) in
    record { first = c.from_residual.ensures ∙ none ∙ ap (λ (p : Owing). first_number (behind_number c.args.task (queued_in_turn p))) c.self.view_is }

pub returns : goal.returns
returns c =
    let by = queued_after (owing_by c.self.inside.told) c.self.inside.queues c.self.inside.next c.self.invariant c.args.task in
    let found = task_first c.in_ok-next.next (first_number (behind_number c.args.task (queued_in_turn (owing_by c.self.inside.told)))) (c.in_ok-next.ensures.first ∙ by) in
    record { first = found ∙ ap (λ (p : Owing). first_number (behind_number c.args.task (queued_in_turn p))) c.self.view_is }
