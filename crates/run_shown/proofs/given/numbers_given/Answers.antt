-- One thing more at the top, and at the end all.
use Rattle.std.proofs.Common.{ℕ, ◌++◌, ap}
use Rattle.run_shown.specs.declared.pieces.Top.TheVariants as top
use Rattle.run_shown.specs.Given.{given_to}
use Rattle.run_shown.specs.Pieces.{tops_by}
use Rattle.run_shown.proofs.TopsSeen.{tops_done, tops_more}
use Rattle.run_shown.proofs.given.numbers_given.Goals as goal

pub loop-piece-init : goal.loop-piece-init
loop-piece-init c = ap (λ ns. ns ++ tops_by (λ t. given_to c.args.given.now t) c.args.pieces.now) c.new-tops.ensures.empty

pub loop-piece-preserved : goal.loop-piece-preserved
loop-piece-preserved c =
    let inner = λ (t : ℕ). given_to c.args.given.now t in
    tops_more inner c.args.pieces.now c.loop-piece.piece-index (top.Own 0) c.loop-piece.tops (tops_by inner c.args.pieces.now) c.add_piece.new.tops
    c.loop-piece-test.true c.loop-piece.invariant c.in_ok-add_piece.ensures

pub returns : goal.returns
returns c =
    let inner = λ (t : ℕ). given_to c.args.given.now t in
    tops_done inner c.args.pieces.now c.loop-piece.piece-index (top.Own 0) c.loop-piece.tops (tops_by inner c.args.pieces.now) c.loop-piece-test.false c.loop-piece.invariant
