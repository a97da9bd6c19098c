-- The greatest number so far, with those of one more node.
use Rattle.std.proofs.Common.{arith}
use Rattle.rt_edits.proofs.Rising.{greatest_next}
use Rattle.rt_edits.proofs.fresh.+highest.Goals as goal

pub highest-loop-node-preserved : goal.highest-loop-node-preserved
highest-loop-node-preserved t c =
    let next = greatest_next c.args.nodes.now c.loop-node.node-index c.node-item.result c.loop-node-test.true c.node-item.is in
    omega (arith, next, c.loop-node.invariant, c.max.ensures, c.highest_below.ensures.greatest, c.max-most.ensures)
