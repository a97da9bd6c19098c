use Rattle.std.proofs.Common.{◌≡◌, [], ap, subst}
use Rattle.rt_sched.specs.Lines.{Row, who_waits}
use Rattle.rt_sched.specs.Rosters.{all_waiting}
use Rattle.rt_sched.proofs.Lined.{comes_so, stand_so, wait_so}
use Rattle.rt_sched.proofs.line.Line.comes_so.Goals as goal

pub returns : goal.returns
returns c =
    let who : who_waits c.self.inside.tree ≡ c.args.self.now.waiting = ap (λ (r : Row). r.waiting) c.self.view_is in
    record { so = subst (λ es. all_waiting es [] ≡ es) who (comes_so (who_waits c.self.inside.tree) (stand_so c.self.inside.tree c.self.invariant.in_order) (wait_so c.self.inside.tree c.self.invariant.once)) }
