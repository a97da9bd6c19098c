-- What is left has the scope exactly where the whole has.
use Rattle.std.proofs.Common.{◌≡◌, drop}
use Rattle.rt_model.specs.Lists.{at}
use Rattle.run_shown.specs.Ways.{way_of}
use Rattle.run_shown.proofs.way.is_on_way.Given as goal

abbrev pub invariant-loop-stop : goal.invariant-loop-stop
invariant-loop-stop l = at (way_of (drop l.stop-index l.way)) l.scope ≡ at (way_of l.way) l.scope
