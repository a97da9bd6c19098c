use Rattle.std.proofs.Common.{None}
use Rattle.rt_sched.proofs.Seats.{leaves, stood}
use Rattle.rt_sched.proofs.line.take_seat.Goals as goal

pub returns-in-Some-InLine-clause-left : goal.returns-in-Some-InLine-clause-left
returns-in-Some-InLine-clause-left c = leaves c.args.seats.now c.remove.new.self c.args.number c.remove.ensures.left

pub returns-in-Some-InLine-clause-stands : goal.returns-in-Some-InLine-clause-stands
returns-in-Some-InLine-clause-stands c = stood c.args.seats.now c.remove.new.self c.args.number None c.remove.ensures.left

pub returns-clause-left : goal.returns-clause-left
returns-clause-left c = leaves c.args.seats.now c.remove.new.self c.args.number c.remove.ensures.left

pub returns-clause-stands : goal.returns-clause-stands
returns-clause-stands c = stood c.args.seats.now c.remove.new.self c.args.number None c.remove.ensures.left
