use Rattle.std.proofs.Common.{ap}
use Rattle.rt_sched.specs.Lines.{Row}
use Rattle.rt_sched.proofs.RollLemmas.{under_without, lines_ready}
use Rattle.rt_sched.proofs.roll.Roll.withdraw.Goals as goal

pub invariant_of-self : goal.invariant_of-self
invariant_of-self c =
    let e = c.self.inside.entered in
    let r = c.self.inside.ready in
    let n = c.args.number in
    lines_ready e r c.self.inside.posted c.remove.new.self c.self.invariant (ap (λ (row : Row). row.members) c.remove.ensures.gone) (rw c.remove.ensures.gone (under_without n e.waiting r.waiting c.self.invariant.ready_under))
