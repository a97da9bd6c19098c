-- The numbers so far, and those that are left, are all.
use Rattle.std.proofs.Common.{◌≡◌, ◌++◌, drop}
use Rattle.run_shown.specs.Given.{given_to}
use Rattle.run_shown.specs.Pieces.{tops_by}
use Rattle.run_shown.proofs.given.numbers_given.Given as goal

abbrev pub invariant-loop-piece : goal.invariant-loop-piece
invariant-loop-piece l = l.tops ++ tops_by (λ t. given_to l.given t) (drop l.piece-index l.pieces) ≡ tops_by (λ t. given_to l.given t) l.pieces
