use Rattle.std.proofs.Common.{◌≡◌, length}
use Rattle.rt_sched.specs.Rosters.{all_waiting}
use Rattle.rt_sched.proofs.roll.move_all.Given as goal

-- nobody is lost on the way
abbrev pub invariant-loop-order : goal.invariant-loop-order
invariant-loop-order l = record {
  from_members : l.from.members ≡ l.fn.from.members;
  to_members : l.to.members ≡ l.fn.to.members;
  waiting : all_waiting l.from.waiting l.to.waiting ≡ all_waiting l.fn.from.waiting l.fn.to.waiting;
}

abbrev pub decreases-loop-order : goal.decreases-loop-order
decreases-loop-order l = length l.from.waiting
