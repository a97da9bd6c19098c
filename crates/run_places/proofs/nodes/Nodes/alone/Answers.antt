-- One alone has no key.
use Rattle.std.proofs.Common.{arith}
use Rattle.run_places.proofs.Alone.{alone_apart}
use Rattle.run_places.proofs.nodes.Nodes.alone.Goals as goal

pub invariant_of-result : goal.invariant_of-result
invariant_of-result c = rw c.in_ok-from_list.ensures.items (λ many. absurd (omega (arith, many, c.requires)), alone_apart c.args.items c.requires)
