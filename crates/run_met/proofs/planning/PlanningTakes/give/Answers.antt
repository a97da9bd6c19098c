-- One mark more.
use Rattle.run_places.specs.Places.{place_of}
use Rattle.run_work.specs.Met.{template_gives}
use Rattle.run_met.proofs.Kept.{one_kept}
use Rattle.run_met.proofs.planning.PlanningTakes.give.Goals as goal

pub returns : goal.returns
returns g c = record { taken = one_kept c.args.self.now.plan _ _ _ c.in_ok-push.ensures.ok (λ t. template_gives (place_of (c.in_ok-above.ensures t)) (c.in_ok-next.ensures t) (c.in_ok-was.ensures t)) }
