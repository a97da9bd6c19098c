-- One mark more.
use Rattle.tree_mirror.specs.Sealed.{slot_of}
use Rattle.tree_marks.specs.Marks.{slot_way}
use Rattle.run_places.specs.Places.{place_of}
use Rattle.run_met.proofs.Kept.{one_kept}
use Rattle.run_met.proofs.planning.PlanningTakes.slot_gives_way.Goals as goal

pub returns : goal.returns
returns g c = record { taken = one_kept c.args.self.now.plan _ _ _ c.in_ok-push.ensures.ok (λ t. slot_way (place_of (c.in_ok-place.ensures t)) (slot_of (c.in_ok-next.ensures t)) (slot_of (c.in_ok-was.ensures t))) }
