-- All lines are made.
use Rattle.std.proofs.Common.{arith}
use Rattle.examples_list.proofs.AllLines.{lines_all}
use Rattle.examples_list.proofs.faces.lines.Goals as goal

pub returns : goal.returns
returns c = record { lines = lines_all c.args.scope.0 c.args.items c.loop-index.index c.args.words.now c.loop-index.lines (omega arith) c.loop-index.invariant }
