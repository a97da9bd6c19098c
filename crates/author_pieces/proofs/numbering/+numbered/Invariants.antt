-- The nodes so far, and those that are left, are all.
use Rattle.std.proofs.Common.{◌≡◌, drop, map}
use Rattle.author_pieces.specs.Numbering as numbering
use Rattle.author_pieces.proofs.Rows.{joined}
use Rattle.author_pieces.proofs.numbering.+numbered.Given as goal

abbrev pub invariant-row_of-loop-index : goal.invariant-row_of-loop-index
invariant-row_of-loop-index l =
    joined l.row (numbering.among (map numbering.numbered (drop l.index l.shapes)) l.above l.index l.paths) ≡ numbering.among (map numbering.numbered l.shapes) l.above 0 l.fn.paths
