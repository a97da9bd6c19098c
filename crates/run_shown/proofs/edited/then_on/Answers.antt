-- The edits of both, one after the other.
use Rattle.run_shown.proofs.Parted.{then_is, then_second}
use Rattle.run_shown.proofs.edited.then_on.Goals as goal

pub returns : goal.returns
returns c = then_is c.args.first c.args.second c.append.new.self c.if-first.false c.in_ok-append.ensures.ok

pub returns-then-is_empty : goal.returns-then-is_empty
returns-then-is_empty c = then_second c.args.first c.args.second c.if-first.false (c.is_empty.ensures.empty.0 c.if-is_empty.true)
