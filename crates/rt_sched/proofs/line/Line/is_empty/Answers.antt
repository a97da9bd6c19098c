use Rattle.std.proofs.Common.{◌≡◌, ap, sym, ◌∙◌}
use Rattle.rt_sched.specs.Lines.{Row, who_waits}
use Rattle.rt_sched.proofs.Waits.{nobody_waits}
use Rattle.rt_sched.proofs.line.Line.is_empty.Goals as goal

pub returns : goal.returns
returns c =
    let who : who_waits c.self.inside.tree ≡ c.args.self.now.waiting = ap (λ (r : Row). r.waiting) c.self.view_is in
    record { empty = (λ t. sym who ∙ ap who_waits (c.is_empty.ensures.empty.0 t), λ e. c.is_empty.ensures.empty.1 (nobody_waits c.self.inside.tree (who ∙ e))) }
