-- The rest rises from the last of the nodes passed.
use Rattle.std.proofs.Common.{◌≡◌, drop}
use Rattle.rt_edits.specs.Nodes.{numbers, rising}
use Rattle.rt_edits.proofs.fresh.+rises.Given as goal

abbrev pub invariant-rises-loop-node : goal.invariant-rises-loop-node
invariant-rises-loop-node l = rising l.last (numbers (drop l.node-index l.nodes)) ≡ rising l.fn.above (numbers l.nodes)
