-- How often the number stood in the nodes passed, up to twice.
use Rattle.std.proofs.Common.{◌≡◌, ◌+◌, ◌≤◌, min, drop}
use Rattle.rt_edits.specs.Nodes.{times, numbers}
use Rattle.rt_edits.proofs.search.+times.Given as goal

abbrev pub invariant-count_number-loop-node : goal.invariant-count_number-loop-node
invariant-count_number-loop-node l = record {
  whole : min 2 (l.total + times l.number (numbers (drop l.node-index l.nodes))) ≡ min 2 (times l.number (numbers l.nodes));
  small : l.total ≤ 2;
}
