-- The rows so far are fitted as the lines are, and there are as many as were counted.
use Rattle.std.proofs.Common.{◌≡◌, length}
use Rattle.rt_text.specs.Layout.{fitted}
use Rattle.rt_text.proofs.fitting.fit.Given as goal

abbrev pub invariant-loop-row : goal.invariant-loop-row
invariant-loop-row l = record {
  fitted : fitted l.height l.rows.items ≡ fitted l.height l.fn.lines.items;
  long : length l.rows.items ≡ l._row;
}
