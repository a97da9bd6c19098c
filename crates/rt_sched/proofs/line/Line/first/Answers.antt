use Rattle.std.proofs.Common.{◌≡◌, None, ap, sym}
use Rattle.rt_sched.specs.Lines.{Row, who_waits, first_in}
use Rattle.rt_sched.proofs.After.{first_placed}
use Rattle.rt_sched.proofs.line.Line.first.Goals as goal

pub returns-in_err-place : goal.returns-in_err-place
returns-in_err-place c =
    let waiting : who_waits c.self.inside.tree ≡ c.args.self.now.waiting = ap (λ (r : Row). r.waiting) c.self.view_is in
    let by = first_placed c.self.inside.tree in
    let none : first_in c.args.self.now.waiting ≡ None = rw (waiting, ← c.in_err-place.ensures.first) at by in
    rw none (record { first = c.from_residual.ensures })

pub returns : goal.returns
returns c =
    let waiting : who_waits c.self.inside.tree ≡ c.args.self.now.waiting = ap (λ (r : Row). r.waiting) c.self.view_is in
    let by = first_placed c.self.inside.tree in
    record { first = sym (rw (waiting, ← c.in_ok-place.ensures.first) at by) }
