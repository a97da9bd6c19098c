-- A scope is among those that are left where it is among all.
use Rattle.std.proofs.Common.{◌≡◌, drop}
use Rattle.rt_model.specs.Lists.{has}
use Rattle.run_shown.proofs.scope_set.is_among.Given as goal

abbrev pub invariant-loop-other : goal.invariant-loop-other
invariant-loop-other l = has l.few l.scope ≡ has (drop l.other-index l.few) l.scope
