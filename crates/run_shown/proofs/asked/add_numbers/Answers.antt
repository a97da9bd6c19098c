-- One more number, and at the end all.
use Rattle.std.proofs.Common.{◌++◌}
use Rattle.tree_edits.specs.Documents.{forest_of}
use Rattle.run_shown.specs.Tops.{tops_of}
use Rattle.run_shown.proofs.Givens.{numbers_done, numbers_more}
use Rattle.run_shown.proofs.asked.add_numbers.Goals as goal

pub loop-node-preserved : goal.loop-node-preserved
loop-node-preserved c =
    numbers_more c.args.nodes.now c.loop-node.node-index c.node-item.result c.loop-node.tops c.push.new.self (c.args.tops.now ++ tops_of (forest_of c.args.nodes.now))
    c.loop-node-test.true c.node-item.is c.loop-node.invariant c.in_ok-push.ensures.ok

pub returns : goal.returns
returns c =
    numbers_done c.args.nodes.now c.loop-node.node-index c.loop-node.tops (c.args.tops.now ++ tops_of (forest_of c.args.nodes.now)) c.loop-node-test.false c.loop-node.invariant
