-- Without a tree, a number and a child it is the empty side.
use Rattle.run_standing.proofs.Sights.{clear_side}
use Rattle.run_standing.proofs.standing.is_clear.Goals as goal

pub returns-in-None : goal.returns-in-None
returns-in-None g c = λ yes. clear_side c.args.side.now c.in-None.is (c.draws_none.ensures.numbers yes) (c.draws_none.ensures.children yes)
