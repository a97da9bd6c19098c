use Rattle.std.proofs.Common.{◌≡◌, length}
use Rattle.rt_model.specs.Lists.{drop_number}
use Rattle.run_state.specs.Names.{scope_numbers}
use Rattle.run_state.proofs.numbers.drop_skipped.Given as goal

abbrev pub invariant-loop-index : goal.invariant-loop-index
invariant-loop-index l = drop_number (scope_numbers l.scopes) l.scope ≡ drop_number (scope_numbers l.initial.scopes) l.scope

abbrev pub decreases-loop-index : goal.decreases-loop-index
decreases-loop-index l = length l.scopes
