use Rattle.std.proofs.Common.{◌≡◌, None, ap, sym}
use Rattle.rt_sched.specs.Lines.{Row, who_waits, first_under}
use Rattle.rt_sched.proofs.Waits.{under_who_waits}
use Rattle.rt_sched.proofs.line.Line.first_under.Goals as goal

pub returns-in_err-first_under : goal.returns-in_err-first_under
returns-in_err-first_under c =
    let who : who_waits c.self.inside.tree ≡ c.args.self.now.waiting = ap (λ (r : Row). r.waiting) c.self.view_is in
    let by = under_who_waits c.args.order.now c.self.inside.tree in
    let none : first_under c.args.order.now c.args.self.now.waiting ≡ None = rw (who, ← c.in_err-first_under.ensures.first) at by in
    rw none (record { first = c.from_residual.ensures })

pub returns : goal.returns
returns c =
    let who : who_waits c.self.inside.tree ≡ c.args.self.now.waiting = ap (λ (r : Row). r.waiting) c.self.view_is in
    let by = under_who_waits c.args.order.now c.self.inside.tree in
    record { first = sym (rw (who, ← c.in_ok-first_under.ensures.first) at by) }
