use Rattle.std.proofs.Common.{Some}
use Rattle.rt_sched.specs.declared.seating.Seat.TheVariants.{InLine}
use Rattle.rt_sched.proofs.Seats.{exchanged, stood}
use Rattle.rt_sched.proofs.line.stand_at.Goals as goal

pub returns-clause-stands : goal.returns-clause-stands
returns-clause-stands c =
    λ has.
    let x = InLine c.args.place in
    stood c.args.seats.now c.exchange-former.new.self c.args.place.number (Some x) (exchanged c.args.seats.now c.exchange-former.new.self c.args.place.number x c.exchange-former.result c.exchange-former.ensures.former c.exchange-former.ensures.seated has)
