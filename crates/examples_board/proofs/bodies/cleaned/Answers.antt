-- Another hook stands there, and nothing is kept.
use Rattle.rt_author.specs.Comes.{RefusedOther}
use Rattle.examples_board.proofs.Refusals.{cleaned_refused, unanswered}
use Rattle.examples_board.proofs.bodies.cleaned.Goals as goal

pub returns-in-None-clause-came : goal.returns-in-None-clause-came
returns-in-None-clause-came c = λ had.
    let end = c.use_drop.new.self in
    let kept = c.in_ok-unless_refused.field-0 in
    let other : RefusedOther c.use_drop.result = unanswered c.use_drop.result kept c.in_ok-unless_refused.ensures.value c.in-None.is in
    cleaned_refused c.use_drop.result c.args.cx.now end c.args.log other c.use_drop.ensures.err c.use_drop.ensures.changed had
