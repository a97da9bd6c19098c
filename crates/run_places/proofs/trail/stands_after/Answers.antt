use Rattle.std.proofs.Common.{sym}
use Rattle.run_places.specs.Trails.{steps_of}
use Rattle.run_places.proofs.Backs.{place-tested}
use Rattle.run_places.proofs.trail.stands_after.Goals as goal

pub returns : goal.returns
returns c = place-tested _ (steps_of c.args.trail.now) c.args.steps.now (λ h. sym (c.stands_on.ensures.0 h)) (λ h. c.stands_on.ensures.1 (sym h))
