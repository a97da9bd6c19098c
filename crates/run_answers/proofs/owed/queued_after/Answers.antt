use Rattle.std.proofs.Common.{◌∙◌, ap, sym}
use Rattle.run_owed.specs.Orders.{first_number}
use Rattle.run_owed.specs.Stands.{queued_in_turn}
use Rattle.run_answers.specs.Owed.{after_last}
use Rattle.run_answers.proofs.owed.queued_after.Goals as goal

pub returns-in-Some : goal.returns-in-Some
returns-in-Some g c = c.queued_behind.ensures.first ∙ ap (λ l. first_number (after_last l (queued_in_turn c.args.state.now.owed))) (sym c.in-Some.is)

pub returns-in-None : goal.returns-in-None
returns-in-None g c = c.next_queued.ensures.first ∙ ap (λ l. first_number (after_last l (queued_in_turn c.args.state.now.owed))) (sym c.in-None.is)
