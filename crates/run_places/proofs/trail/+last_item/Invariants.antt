-- Each time there are fewer steps.
use Rattle.std.proofs.Common.{length}
use Rattle.run_places.proofs.trail.+last_item.Given as goal

abbrev pub decreases-last_item : goal.decreases-last_item
decreases-last_item l = length l.place.now
