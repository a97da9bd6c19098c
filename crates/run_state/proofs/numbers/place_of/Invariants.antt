use Rattle.std.proofs.Common.{◌≡◌, ◌++◌, take, drop}
use Rattle.rt_model.specs.Lists.{insert_number}
use Rattle.run_state.proofs.numbers.place_of.Given as goal

abbrev pub invariant-loop-index : goal.invariant-loop-index
invariant-loop-index l = insert_number l.numbers l.number ≡ take l.index l.numbers ++ insert_number (drop l.index l.numbers) l.number
