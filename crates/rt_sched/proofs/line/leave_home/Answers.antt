use Rattle.std.proofs.Common.{sym}
use Rattle.rt_sched.proofs.Seats.{no_seat}
use Rattle.rt_sched.proofs.line.leave_home.Goals as goal

pub returns-in_err-node-clause-was_home : goal.returns-in_err-node-clause-was_home
returns-in_err-node-clause-was_home c = λ has. absurd (no_seat c.args.place.number c.args.seats.now has (sym c.in_err-node.ensures.former))
