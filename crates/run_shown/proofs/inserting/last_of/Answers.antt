-- The last node of a row has its number.
use Rattle.run_shown.proofs.Forests.{last_seen}
use Rattle.run_shown.proofs.inserting.last_of.Goals as goal

pub returns-in-Some : goal.returns-in-Some
returns-in-Some c = last_seen c.args.row.now c.args.before c.in-Some.node.now c.in-Some.ensures.value
