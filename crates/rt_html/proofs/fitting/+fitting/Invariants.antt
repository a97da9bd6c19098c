-- The nodes so far are fit.
use Rattle.std.proofs.Common.{◌≡◌, drop}
use Rattle.rt_html.specs.Reading.{are_fit, plain_row}
use Rattle.rt_html.proofs.fitting.+fitting.Given as goal

abbrev pub invariant-are_fit-loop-node : goal.invariant-are_fit-loop-node
invariant-are_fit-loop-node l = are_fit l.levels (plain_row l.nodes) ≡ are_fit l.levels (plain_row (drop l.node-index l.nodes))
