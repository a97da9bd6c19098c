-- One mark more.
use Rattle.run_places.specs.Places.{place_of}
use Rattle.run_work.specs.Met.{items_in}
use Rattle.run_met.proofs.Kept.{one_kept}
use Rattle.run_met.proofs.planning.PlanningTakes.come_in.Goals as goal

pub returns : goal.returns
returns g c = record { taken = one_kept c.args.self.now.plan _ _ _ c.in_ok-push.ensures.ok (λ t. items_in (place_of (c.in_ok-place.ensures t)) c.args.first (c.in_ok-trees.ensures t)) }
