-- What the nodes passed don't have, the rest may.
use Rattle.std.proofs.Common.{◌≡◌, drop}
use Rattle.rt_edits.specs.Nodes.{found}
use Rattle.rt_edits.proofs.search.+find.Given as goal

abbrev pub invariant-find-loop-node : goal.invariant-find-loop-node
invariant-find-loop-node l = found l.number (drop l.node-index l.nodes) ≡ found l.number l.nodes
