-- The rows so far, and those that change from here on, are all.
use Rattle.std.proofs.Common.{◌≡◌, ◌++◌, drop}
use Rattle.rt_text.specs.Screens.{changed_rows}
use Rattle.rt_text.proofs.rows.changed.Given as goal

abbrev pub invariant-loop-at : goal.invariant-loop-at
invariant-loop-at l = l.rows ++ changed_rows l.at (drop l.at l.old) (drop l.at l.new) ≡ changed_rows 0 l.old l.new
