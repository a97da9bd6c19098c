-- One mark more.
use Rattle.tree_mirror.specs.Sealed.{component_of}
use Rattle.tree_marks.specs.Marks.{left}
use Rattle.run_places.specs.Places.{place_of}
use Rattle.run_met.proofs.Kept.{one_kept}
use Rattle.run_met.proofs.planning.PlanningTakes.leave.Goals as goal

pub returns : goal.returns
returns g c = record { taken = one_kept c.args.self.now.plan _ _ _ c.in_ok-push.ensures.ok (λ t. left (place_of (c.in_ok-place.ensures t)) (component_of (c.in_ok-was.ensures t))) }
