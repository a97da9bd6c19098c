use Rattle.rt_sched.specs.Seats.{taken}
use Rattle.rt_sched.proofs.Taken.{found_row, found_other}
use Rattle.rt_sched.proofs.seating.Seating.get.Goals as goal

pub row_seat-requires : goal.row_seat-requires
row_seat-requires c = record { rises = rw c.as_slice.ensures.value c.self.invariant }

pub returns-in-Some : goal.returns-in-Some
returns-in-Some c =
    record { seat = found_row (taken c.self.inside.rows.items) c.self.inside.others.entries c.args.self.now c.args.number c.in-Some.seat.now (rw c.as_slice.ensures.value at c.in-Some.ensures) c.self.view_is }

pub returns-in-None : goal.returns-in-None
returns-in-None c =
    record { seat = found_other (taken c.self.inside.rows.items) c.self.inside.others.entries c.args.self.now c.args.number _ (rw c.as_slice.ensures.value at c.in-None.ensures) c.other_seat.ensures c.self.view_is }
