use Rattle.std.proofs.Common.{ap}
use Rattle.rt_sched.specs.Lines.{Row}
use Rattle.rt_sched.proofs.RollLemmas.{under_without, lines_ready, lines_posted}
use Rattle.rt_sched.proofs.roll.Roll.start.Goals as goal

pub invariant_of-self : goal.invariant_of-self
invariant_of-self c =
    let e = c.self.inside.entered in
    let r = c.self.inside.ready in
    let p = c.self.inside.posted in
    let n = c.args.number in
    let ready = lines_ready e r p c.remove.new.self c.self.invariant (ap (λ (row : Row). row.members) c.remove.ensures.gone) (rw c.remove.ensures.gone (under_without n e.waiting r.waiting c.self.invariant.ready_under)) in
    lines_posted e c.remove.new.self p c.remove-2.new.self ready (ap (λ (row : Row). row.members) c.remove-2.ensures.gone) (rw c.remove-2.ensures.gone (under_without n e.waiting p.waiting c.self.invariant.posted_under))
