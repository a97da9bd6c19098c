-- One node more, or none.
use Rattle.std.proofs.Common.{◌∙◌}
use Rattle.author_pieces.proofs.Rows.{row-end, row-next}
use Rattle.author_pieces.proofs.numbering.+numbered.Goals as goal

pub row_of-loop-index-preserved : goal.row_of-loop-index-preserved
row_of-loop-index-preserved t c =
    row-next c.args.shapes.now c.args.above.now c.loop-index.index _ c.loop-index.paths c.node_of.new.paths _ c.loop-index.row _ c.loop-index-test.true c.index-shapes-index.is c.in_ok-node.ensures.node c.in_ok-push.ensures.ok
    ∙ c.loop-index.invariant

pub row_of-returns : goal.row_of-returns
row_of-returns t c =
    record { row = row-end c.args.shapes.now c.args.above.now c.loop-index.index c.loop-index.paths c.loop-index.row c.loop-index-test.false ∙ c.loop-index.invariant }
