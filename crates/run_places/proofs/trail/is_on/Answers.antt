use Rattle.run_places.specs.Trails.{steps_of}
use Rattle.run_places.proofs.Backs.{place-tested}
use Rattle.run_places.proofs.trail.is_on.Goals as goal

pub returns : goal.returns
returns c = place-tested _ c.args.place.now (steps_of c.args.trail.now) c.parts_on.ensures.0 c.parts_on.ensures.1
