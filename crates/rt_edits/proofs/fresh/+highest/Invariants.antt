-- The greatest of the nodes passed and of the rest.
use Rattle.std.proofs.Common.{◌≡◌, max, drop}
use Rattle.rt_edits.specs.Nodes.{numbers, greatest}
use Rattle.rt_edits.proofs.fresh.+highest.Given as goal

abbrev pub invariant-highest-loop-node : goal.invariant-highest-loop-node
invariant-highest-loop-node l = max l.most (greatest (numbers (drop l.node-index l.nodes))) ≡ greatest (numbers l.nodes)
