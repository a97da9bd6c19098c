use Rattle.std.proofs.Common.{◌≡◌, ap, sym}
use Rattle.rt_sched.specs.Lines.{Row, who_waits}
use Rattle.rt_sched.proofs.Least.{least_first}
use Rattle.rt_sched.proofs.line.Line.first_order.Goals as goal

pub returns-clause-least : goal.returns-clause-least
returns-clause-least c =
    let who : c.args.self.now.waiting ≡ who_waits c.self.inside.tree = sym (ap (λ (r : Row). r.waiting) c.self.view_is) in
    rw who (least_first c.in_ok-first.field-0 c.self.inside.tree c.self.invariant.in_order (sym c.in_ok-first.ensures.first))
