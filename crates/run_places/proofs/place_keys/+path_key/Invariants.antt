-- Each time there are fewer indices.
use Rattle.std.proofs.Common.{length}
use Rattle.run_places.proofs.place_keys.+path_key.Given as goal

abbrev pub decreases-path_key : goal.decreases-path_key
decreases-path_key l = length l.path.now
