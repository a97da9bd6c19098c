-- What was met so far, and what is left, are what the whole row gives.
use Rattle.std.proofs.Common.{◌≡◌, ◌++◌, drop, map}
use Rattle.run_places.specs.Pieces.{piece_of, row_met}
use Rattle.run_places.proofs.piece.+pieces.Given as goal

abbrev pub invariant-add_pieces-loop-index : goal.invariant-add_pieces-loop-index
invariant-add_pieces-loop-index l =
    map piece_of l.pieces ++ row_met l.up l.index (drop l.index l.nodes) ≡ map piece_of l.fn.pieces ++ row_met l.up 0 l.nodes
