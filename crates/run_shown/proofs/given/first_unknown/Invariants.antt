-- What was passed is known.
use Rattle.std.proofs.Common.{◌≡◌, drop}
use Rattle.run_shown.specs.Unknowns.{first_in}
use Rattle.run_shown.proofs.given.first_unknown.Given as goal

abbrev pub invariant-loop-piece : goal.invariant-loop-piece
invariant-loop-piece l = first_in l.given l.pieces ≡ first_in l.given (drop l.piece-index l.pieces)
