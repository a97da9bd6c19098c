use Rattle.std.proofs.Common.{◌≡◌, None, ap, sym}
use Rattle.rt_sched.specs.Lines.{Row, standing, who_waits, order_in}
use Rattle.rt_sched.proofs.LineLemmas.{order_by_place}
use Rattle.rt_sched.proofs.line.Line.order_of.Goals as goal

pub returns-in_err-place_at : goal.returns-in_err-place_at
returns-in_err-place_at c =
    let who : who_waits c.self.inside.tree ≡ c.args.self.now.waiting = ap (λ (r : Row). r.waiting) c.self.view_is in
    let by = order_by_place (standing c.self.inside.seats) c.self.inside.tree c.self.inside.arrivals c.args.number c.self.invariant in
    let none : order_in c.args.number c.args.self.now.waiting ≡ None = rw (who, ← c.in_err-place_at.ensures.place) at by in
    rw none (record { order = c.from_residual.ensures })

pub returns : goal.returns
returns c =
    let who : who_waits c.self.inside.tree ≡ c.args.self.now.waiting = ap (λ (r : Row). r.waiting) c.self.view_is in
    let by = order_by_place (standing c.self.inside.seats) c.self.inside.tree c.self.inside.arrivals c.args.number c.self.invariant in
    record { order = sym (rw (who, ← c.in_ok-place_at.ensures.place) at by) }
