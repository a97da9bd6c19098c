-- One mark more.
use Rattle.tree_marks.specs.Marks.{worded}
use Rattle.run_places.specs.Places.{place_of}
use Rattle.run_met.proofs.Kept.{one_kept}
use Rattle.run_met.proofs.planning.PlanningTakes.word.Goals as goal

pub returns : goal.returns
returns g c = record { taken = one_kept c.args.self.now.plan _ _ _ c.in_ok-push.ensures.ok (λ t. worded (place_of (c.in_ok-place.ensures t)) (c.in_ok-next.ensures.copy t) (c.in_ok-was.ensures.copy t)) }
