-- Each time there are fewer steps.
use Rattle.std.proofs.Common.{length}
use Rattle.run_places.proofs.place_keys.+steps_key.Given as goal

abbrev pub decreases-steps_key : goal.decreases-steps_key
decreases-steps_key l = length l.steps.now
