-- The attributes so far, and those that are left, are all.
use Rattle.std.proofs.Common.{◌≡◌, drop}
use Rattle.author_pieces.specs.Numbering as numbering
use Rattle.author_pieces.proofs.Rows.{joined}
use Rattle.author_pieces.proofs.numbering.attrs_of.Given as goal

abbrev pub invariant-loop-index : goal.invariant-loop-index
invariant-loop-index l = joined l.row (numbering.attrs_at l.path (drop l.index l.attrs) l.paths) ≡ numbering.attrs_at l.path l.attrs l.fn.paths
