-- The row of the number has its seat.
use Rattle.std.proofs.Common.{sym, ◌∙◌}
use Rattle.rt_sched.proofs.Taken.{at_row}
use Rattle.rt_sched.proofs.seating.row_seat.Goals as goal

pub returns-in-Some : goal.returns-in-Some
returns-in-Some c = c.as_ref.ensures.value ∙ at_row c.args.rows.now 0 c.in-Some.index c.args.number c.in-Some.ensures.within c.in-Some.ensures.own c.requires.rises c.index-rows-index.result

pub returns-in-None : goal.returns-in-None
returns-in-None c = sym c.in-None.ensures.absent
