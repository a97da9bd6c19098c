-- What was passed over is under other numbers, and nothing was put after the others yet.
use Rattle.std.proofs.Common.{◌≡◌, drop}
use Rattle.run_shown.specs.Given.{rows_under}
use Rattle.run_shown.proofs.asked.show_given.Given as goal

abbrev pub invariant-loop-pair : goal.invariant-loop-pair
invariant-loop-pair l = (l.row ≡ l.fn.row) × (rows_under (drop l.pair-index l.pair-items) l.scope ≡ rows_under l.pair-items l.scope)
