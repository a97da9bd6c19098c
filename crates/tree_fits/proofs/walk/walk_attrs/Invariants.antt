-- What is left to walk through gives what the whole gives.
use Rattle.std.proofs.Common.{◌≡◌, drop}
use Rattle.tree_nodes.specs.Met.{met_attrs}
use Rattle.tree_fits.specs.Place.{path_of}
use Rattle.tree_fits.specs.Walk.{sought_by, walked}
use Rattle.tree_fits.proofs.walk.walk_attrs.Given as goal

abbrev pub invariant-loop-attr : goal.invariant-loop-attr
invariant-loop-attr g l =
    walked (sought_by l.block) (met_attrs (path_of l.place) (drop l.attr-index l.attrs)) l.seen ≡
    walked (sought_by l.block) (met_attrs (path_of l.place) l.attrs) l.fn.seen
