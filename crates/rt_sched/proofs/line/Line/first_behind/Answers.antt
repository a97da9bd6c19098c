use Rattle.std.proofs.Common.{◌≡◌, None, ap, sym}
use Rattle.rt_sched.specs.Lines.{Row, standing, who_waits, behind, first_in}
use Rattle.rt_sched.proofs.After.{first_behind_at, first_behind_none}
use Rattle.rt_sched.proofs.line.Line.first_behind.Goals as goal

pub returns-in_err-own : goal.returns-in_err-own
returns-in_err-own c =
    let waiting : who_waits c.self.inside.tree ≡ c.args.self.now.waiting = ap (λ (r : Row). r.waiting) c.self.view_is in
    let by = first_behind_none (standing c.self.inside.seats) c.self.inside.tree c.self.inside.arrivals c.args.number c.self.invariant (sym c.in_err-own.ensures.place) in
    let none : first_in (behind c.args.number c.args.self.now.waiting) ≡ None = rw waiting at by in
    rw none (record { first = c.from_residual.ensures })

pub returns-in_err-place : goal.returns-in_err-place
returns-in_err-place c =
    let waiting : who_waits c.self.inside.tree ≡ c.args.self.now.waiting = ap (λ (r : Row). r.waiting) c.self.view_is in
    let by = first_behind_at (standing c.self.inside.seats) c.self.inside.tree c.self.inside.arrivals c.args.number c.in_ok-own.own c.self.invariant (sym c.in_ok-own.ensures.place) in
    let none : first_in (behind c.args.number c.args.self.now.waiting) ≡ None = rw (waiting, ← c.in_err-place.ensures.first) at by in
    rw none (record { first = c.from_residual-in_err-place.ensures })

pub returns : goal.returns
returns c =
    let waiting : who_waits c.self.inside.tree ≡ c.args.self.now.waiting = ap (λ (r : Row). r.waiting) c.self.view_is in
    let by = first_behind_at (standing c.self.inside.seats) c.self.inside.tree c.self.inside.arrivals c.args.number c.in_ok-own.own c.self.invariant (sym c.in_ok-own.ensures.place) in
    record { first = sym (rw (waiting, ← c.in_ok-place.ensures.first) at by) }
