-- The numbers so far, and those that are left, are those of the whole.
use Rattle.std.proofs.Common.{◌≡◌, ◌++◌, drop}
use Rattle.run_shown.specs.Pieces.{tops_by}
use Rattle.run_shown.specs.Seen.{scope_seen}
use Rattle.run_shown.proofs.tops.+tops.Given as goal

abbrev pub invariant-add_all-loop-piece : goal.invariant-add_all-loop-piece
invariant-add_all-loop-piece g l =
    l.tops ++ tops_by (λ t. scope_seen l.look l.depth t) (drop l.piece-index l.pieces) ≡ l.fn.tops ++ tops_by (λ t. scope_seen l.look l.depth t) l.pieces

abbrev pub decreases-add_scope : goal.decreases-add_scope
decreases-add_scope g l = l.levels

abbrev pub decreases-add_all : goal.decreases-add_all
decreases-add_all g l = l.levels

abbrev pub decreases-add_one : goal.decreases-add_one
decreases-add_one g l = l.levels
