use Rattle.std.proofs.Common.{None, cond, eqb, ap, ◌∙◌}
use Rattle.rt_sched.specs.Seats.{taken, seat_of}
use Rattle.rt_sched.proofs.Taken.{found_row, found_other, left_both}
use Rattle.rt_sched.proofs.seating.Seating.remove.Goals as goal

pub returns-in-Some-clause-seat : goal.returns-in-Some-clause-seat
returns-in-Some-clause-seat c =
    found_row (taken c.self.inside.rows.items) c.self.inside.others.entries c.args.self.now c.args.number c.in-Some.found c.in-Some.ensures.seat c.self.view_is

pub returns-in-Some-clause-left : goal.returns-in-Some-clause-left
returns-in-Some-clause-left c =
    λ q.
    ap (λ es. seat_of es q) c.tidy.ensures.same
    ∙ left_both (taken c.self.inside.rows.items) (taken c.take_row.new.rows.items) c.self.inside.others.entries c.take_other-other.new.others.entries c.args.number c.take_row.ensures.left c.take_other-other.ensures.left q
    ∙ ap (λ es. cond (eqb q c.args.number) None (seat_of es q)) c.self.view_is

pub returns-in-None-clause-seat : goal.returns-in-None-clause-seat
returns-in-None-clause-seat c =
    found_other (taken c.self.inside.rows.items) c.self.inside.others.entries c.args.self.now c.args.number c.take_other-other.result c.in-None.ensures.seat c.take_other-other.ensures.seat c.self.view_is

pub returns-in-None-clause-left : goal.returns-in-None-clause-left
returns-in-None-clause-left c =
    λ q.
    left_both (taken c.self.inside.rows.items) (taken c.take_row.new.rows.items) c.self.inside.others.entries c.take_other-other.new.others.entries c.args.number c.take_row.ensures.left c.take_other-other.ensures.left q
    ∙ ap (λ es. cond (eqb q c.args.number) None (seat_of es q)) c.self.view_is
