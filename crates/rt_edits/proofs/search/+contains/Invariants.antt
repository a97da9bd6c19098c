-- What the nodes passed don't have, the rest may.
use Rattle.std.proofs.Common.{◌≡◌, drop}
use Rattle.rt_edits.specs.Nodes.{has, numbers}
use Rattle.rt_edits.proofs.search.+contains.Given as goal

abbrev pub invariant-contains_number-loop-node : goal.invariant-contains_number-loop-node
invariant-contains_number-loop-node l = has l.number (numbers (drop l.node-index l.nodes)) ≡ has l.number (numbers l.nodes)
