-- One of the tasks is active exactly where one of those left is.
use Rattle.std.proofs.Common.{◌≡◌, length}
use Rattle.run_owed.specs.Stands.{woken_in_turn}
use Rattle.run_state.specs.Mirror.{state_of}
use Rattle.run_answers.specs.Owed.{after_last, any_active}
use Rattle.run_answers.proofs.owed.any_woken.Given as goal

abbrev pub invariant-loop-task : goal.invariant-loop-task
invariant-loop-task g l =
    (kept : _)
    → any_active (state_of kept l.state).tasks (after_last l.last (woken_in_turn (l.state).owed)) ≡ any_active (state_of kept l.state).tasks (woken_in_turn (l.state).owed)

abbrev pub decreases-loop-task : goal.decreases-loop-task
decreases-loop-task g l = length (after_last l.last (woken_in_turn (l.state).owed))
