-- Where each is the first one at its place, no place is that of two.
use Rattle.std.proofs.Common.{arith}
use Rattle.run_places.specs.Indexed.{IsFirstNodes}
use Rattle.run_places.proofs.Firsts.{all_nodes_apart, up_to}
use Rattle.run_places.proofs.nodes.each_first.Goals as goal

pub loop-index-init : goal.loop-index-init
loop-index-init c = λ i low. absurd (omega (arith, low))

pub loop-index-preserved : goal.loop-index-preserved
loop-index-preserved c =
    up_to (λ i. IsFirstNodes c.args.items.now i) c.loop-index.index c.loop-index.invariant (c.is_first.ensures c.if-not-is_first.false)

pub is_first-requires : goal.is_first-requires
is_first-requires c = c.requires

pub returns : goal.returns
returns c = λ yes. all_nodes_apart c.args.items.now c.loop-index.index c.loop-index-test.false c.loop-index.invariant
