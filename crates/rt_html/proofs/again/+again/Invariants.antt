-- What is written so far, with the nodes that are left, is what is to be written.
use Rattle.std.proofs.Common.{◌≡◌, ◌++◌, drop}
use Rattle.rt_html.specs.Reading.{plain_row}
use Rattle.rt_html.specs.Spelling.{html}
use Rattle.rt_html.proofs.again.+again.Given as goal

abbrev pub invariant-put_row-loop-node : goal.invariant-put_row-loop-node
invariant-put_row-loop-node l = l.writer ++ html (plain_row (drop l.node-index l.nodes)) ≡ l.fn.writer ++ html (plain_row l.nodes)
