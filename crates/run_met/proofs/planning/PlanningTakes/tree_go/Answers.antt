-- One mark more.
use Rattle.tree_mirror.specs.Sealed.{tree_of}
use Rattle.tree_marks.specs.Marks.{tree_goes}
use Rattle.run_places.specs.Places.{place_of}
use Rattle.run_met.proofs.Kept.{one_kept}
use Rattle.run_met.proofs.planning.PlanningTakes.tree_go.Goals as goal

pub returns : goal.returns
returns g c = record { taken = one_kept c.args.self.now.plan _ _ _ c.in_ok-push.ensures.ok (λ t. tree_goes (place_of (c.in_ok-above.ensures t)) (tree_of (c.in_ok-was.ensures t))) }
