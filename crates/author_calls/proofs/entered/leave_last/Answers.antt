-- What was popped stood last.
use Rattle.author_calls.proofs.Gathered.{left-is}
use Rattle.author_calls.proofs.entered.leave_last.Goals as goal

pub returns : goal.returns
returns c = record { left = left-is c.args.into.now c.pop-context.new.self c.pop-context.result c.pop-context.ensures.last }
