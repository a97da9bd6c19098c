-- Places are compared as the definitions compare them.
use Rattle.run_places.proofs.Backs.{place-tested}
use Rattle.run_places.proofs.place.is_same_place.Goals as goal

pub returns : goal.returns
returns c = place-tested _ c.args.left.now c.args.right.now c.same.ensures.same.0 c.same.ensures.same.1
