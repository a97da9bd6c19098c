-- What is known is passed over, and what isn't is the first.
use Rattle.std.proofs.Common.{sym, ◌∙◌}
use Rattle.run_shown.specs.declared.pieces.Top.TheVariants as top
use Rattle.run_shown.proofs.Unknowns.{first_found, first_none, first_passed}
use Rattle.run_shown.proofs.given.first_unknown.Goals as goal

pub loop-piece-preserved : goal.loop-piece-preserved
loop-piece-preserved c =
    c.loop-piece.invariant
    ∙ first_passed c.args.given.now c.args.pieces.now c.loop-piece.piece-index (top.Own 0) c.loop-piece-test.true (sym c.in_default.ensures)

pub returns-in-Some : goal.returns-in-Some
returns-in-Some c =
    sym (c.loop-piece.invariant
    ∙ first_found c.args.given.now c.args.pieces.now c.loop-piece.piece-index (top.Own 0) c.in-Some.scope c.loop-piece-test.true (sym c.in-Some.ensures))

pub returns : goal.returns
returns c = sym (c.loop-piece.invariant ∙ first_none c.args.given.now c.args.pieces.now c.loop-piece.piece-index (top.Own 0) c.loop-piece-test.false)
