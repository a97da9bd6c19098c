use Rattle.std.proofs.Common.{sym}
use Rattle.run_places.specs.Trails.{steps_of}
use Rattle.run_places.proofs.Backs.{place-tested}
use Rattle.run_places.proofs.trail.stands_at.Goals as goal

pub returns : goal.returns
returns c = place-tested _ (steps_of c.args.trail.now) c.args.place.now (λ h. sym (c.parts_on.ensures.0 h)) (λ h. c.parts_on.ensures.1 (sym h))
