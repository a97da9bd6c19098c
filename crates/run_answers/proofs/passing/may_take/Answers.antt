use Rattle.std.proofs.Common.{ap, sym, ◌∙◌}
use Rattle.run_state.specs.Mirror.{state_of}
use Rattle.run_state.specs.Names.{work_of}
use Rattle.run_answers.specs.Barred.{may_take}
use Rattle.run_answers.proofs.passing.may_take.Goals as goal

pub returns-in-PollTask : goal.returns-in-PollTask
returns-in-PollTask g c = λ kept. c.may_poll.ensures kept ∙ ap (λ x. may_take (state_of kept c.args.state.now) (work_of x)) (sym c.in-PollTask.is)
