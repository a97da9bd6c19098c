use Rattle.std.proofs.Common.{◌≡◌, length}
use Rattle.rt_model.specs.Lists.{drop_number}
use Rattle.run_state.proofs.numbers.drop_number.Given as goal

abbrev pub invariant-loop-index : goal.invariant-loop-index
invariant-loop-index l = drop_number l.numbers l.number ≡ drop_number l.initial.numbers l.number

abbrev pub decreases-loop-index : goal.decreases-loop-index
decreases-loop-index l = length l.numbers
