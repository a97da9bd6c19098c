-- Errors have no number left, and nothing is shown.
use Rattle.std.proofs.Common.{◌∙◌, ap, sym}
use Rattle.rt_author.specs.Comes.{RefusedOther}
use Rattle.rt_author.specs.Words.{call_of, element_of, reached}
use Rattle.examples_board.proofs.Refusals.{unanswered, uncaught}
use Rattle.examples_board.proofs.bodies.refused.Goals as goal

pub returns-in_ok-empty-in-None-clause-came : goal.returns-in_ok-empty-in-None-clause-came
returns-in_ok-empty-in-None-clause-came c = λ had.
    let end = c.captured.new.self in
    let other : RefusedOther c.captured.result = unanswered c.captured.result c.in_ok-error.field-0 c.in_ok-error.ensures.value c.in-None.is in
    uncaught c.captured.result c.args.cx.now end other c.captured.ensures.at_end c.captured.ensures.err c.captured.ensures.told had
    ∙ ap (λ answer. reached (element_of answer) (call_of end)) (sym c.in_ok-empty-in-None.ensures)
