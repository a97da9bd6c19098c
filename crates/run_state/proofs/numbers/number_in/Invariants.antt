use Rattle.std.proofs.Common.{◌≡◌, drop}
use Rattle.rt_model.specs.Lists.{has}
use Rattle.run_state.proofs.numbers.number_in.Given as goal

abbrev pub invariant-loop-index : goal.invariant-loop-index
invariant-loop-index l = has l.numbers l.number ≡ has (drop l.index l.numbers) l.number
