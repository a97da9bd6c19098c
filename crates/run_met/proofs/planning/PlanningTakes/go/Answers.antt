-- One mark more.
use Rattle.tree_marks.specs.Marks.{goes}
use Rattle.run_places.specs.Places.{kind_of, place_of}
use Rattle.run_met.proofs.Kept.{one_kept}
use Rattle.run_met.proofs.planning.PlanningTakes.go.Goals as goal

pub returns : goal.returns
returns g c = record { taken = one_kept c.args.self.now.plan _ _ _ c.in_ok-push.ensures.ok (λ t. goes (place_of (c.in_ok-place.ensures t)) (kind_of c.args.kind)) }
