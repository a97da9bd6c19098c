-- The spots so far, and those that are left, are what the whole gives.
use Rattle.std.proofs.Common.{◌≡◌, ◌++◌, drop, map}
use Rattle.run_places.specs.Places.{place_of, spot_of}
use Rattle.run_places.specs.Spots.{tree_spots, items_spots, pieces_spots}
use Rattle.run_places.proofs.spot.+spots.Given as goal

abbrev pub invariant-add_spots-loop-piece : goal.invariant-add_spots-loop-piece
invariant-add_spots-loop-piece g l =
    map spot_of l.found ++ pieces_spots (place_of l.above) l.tree (drop l.piece-index l.piece-items) ≡
    map spot_of l.fn.found ++ tree_spots (place_of l.above) l.tree

abbrev pub invariant-add_items-loop-position : goal.invariant-add_items-loop-position
invariant-add_items-loop-position g l =
    map spot_of l.found ++ items_spots l.position (place_of l.place) (drop l.position l.trees) ≡
    map spot_of l.fn.found ++ items_spots 0 (place_of l.place) l.trees
