use Rattle.std.proofs.Common.{◌≡◌, ◌++◌}
use Rattle.rt_sched.specs.Seats.{members_of}
use Rattle.rt_sched.specs.Lines.{standing, who_waits}
use Rattle.rt_sched.proofs.Renumbered.{IsRenumbering}
use Rattle.rt_sched.proofs.line.renumber.Given as goal

-- the places so far are counted anew, and nobody has moved
abbrev pub invariant-loop-arrival : goal.invariant-loop-arrival
invariant-loop-arrival l = record {
  members : members_of l.seats ≡ members_of l.fn.seats;
  waiting : who_waits (l.done ++ l.tree) ≡ who_waits l.fn.tree;
  line : IsRenumbering (standing l.seats) l.done l.tree l.arrival;
}
