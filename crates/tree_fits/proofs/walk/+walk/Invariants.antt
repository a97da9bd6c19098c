-- What is left to walk through gives what the whole gives.
use Rattle.std.proofs.Common.{◌≡◌, drop, map}
use Rattle.tree_nodes.specs.Met.{met, met_among}
use Rattle.tree_fits.specs.Place.{path_of}
use Rattle.tree_fits.specs.Walk.{sought_by, walked}
use Rattle.tree_fits.proofs.walk.+walk.Given as goal

abbrev pub invariant-walk_among-loop-index : goal.invariant-walk_among-loop-index
invariant-walk_among-loop-index g l =
    walked (sought_by l.block) (met_among (map met (drop l.index l.nodes)) (path_of l.parent) l.index) l.seen ≡
    walked (sought_by l.block) (met_among (map met l.nodes) (path_of l.parent) 0) l.fn.seen
