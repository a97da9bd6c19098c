use Rattle.std.proofs.Common.{◌≡◌, true, false, Some, ap, sym, ◌∙◌, subst}
use Rattle.std.specs.Option.{is_some}
use Rattle.rt_sched.specs.Seats.{seat_of, members_of}
use Rattle.rt_sched.specs.Lines.{Row, standing, place_of, has_number, Joins}
use Rattle.rt_sched.specs.declared.seating.Seat.TheVariants.{Home}
use Rattle.rt_sched.proofs.Seats.{is_member, stood_same, vacant, joins, joined}
use Rattle.rt_sched.proofs.LineLemmas.{line_same}
use Rattle.rt_sched.proofs.line.Line.enter.Goals as goal

pub returns-then-has-clause-entered : goal.returns-then-has-clause-entered
returns-then-has-clause-entered c =
    let has : has_number c.args.number (members_of c.self.inside.seats) ≡ true = is_member c.args.number c.self.inside.seats ∙ sym c.has.ensures ∙ c.if-has.true in
    subst (λ ms. Joins c.args.number ms ms) (ap (λ (r : Row). r.members) c.self.view_is) (joined c.args.number (members_of c.self.inside.seats) has)

pub invariant_of-self : goal.invariant_of-self
invariant_of-self c =
    line_same (standing c.self.inside.seats) (standing c.insert.new.self) c.self.inside.tree c.self.inside.arrivals c.self.invariant (λ q. ap (λ es. place_of (seat_of es q)) c.in_err-insert.ensures.err)

pub invariant_of-self-2 : goal.invariant_of-self-2
invariant_of-self-2 c =
    let none : is_some (seat_of c.self.inside.seats c.args.number) ≡ false = sym c.has.ensures ∙ c.if-has.false in
    line_same (standing c.self.inside.seats) (standing c.insert.new.self) c.self.inside.tree c.self.inside.arrivals c.self.invariant
    (stood_same c.self.inside.seats c.insert.new.self c.args.number (Some (Home c.in_ok-node.node)) c.in_ok-insert.ensures.ok (vacant _ none))

pub returns-clause-entered : goal.returns-clause-entered
returns-clause-entered c =
    let members = ap (λ (r : Row). r.members) c.self.view_is in
    subst (λ ms. Joins c.args.number ms (members_of c.insert.new.self)) members (joins c.self.inside.seats c.insert.new.self c.args.number (Home c.in_ok-node.node) c.in_ok-insert.ensures.ok)
