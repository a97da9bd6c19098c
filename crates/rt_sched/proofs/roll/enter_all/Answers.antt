use Rattle.std.proofs.Common.{refl, ap, ◌∙◌}
use Rattle.rt_sched.specs.Lines.{without_waiting}
use Rattle.rt_sched.proofs.Waits.{without_waiting_absent}
use Rattle.rt_sched.proofs.roll.enter_all.Goals as goal

pub returns-in-Err-clause-waiting : goal.returns-in-Err-clause-waiting
returns-in-Err-clause-waiting c =
    let first = c.forget.ensures.waiting ∙ ap (without_waiting c.args.number) c.in_ok-enter.ensures.waiting ∙ without_waiting_absent c.args.number c.args.first.now.waiting c.requires.absent.0 in
    (first, c.in-Err.ensures.waiting, refl)

pub returns-in-Err-enter-clause-waiting : goal.returns-in-Err-enter-clause-waiting
returns-in-Err-enter-clause-waiting c =
    let first = c.forget-in-Err-enter.ensures.waiting ∙ ap (without_waiting c.args.number) c.in_ok-enter.ensures.waiting ∙ without_waiting_absent c.args.number c.args.first.now.waiting c.requires.absent.0 in
    let second = c.forget-in-Err-enter-2.ensures.waiting ∙ ap (without_waiting c.args.number) c.in_default.ensures.waiting ∙ without_waiting_absent c.args.number c.args.second.now.waiting c.requires.absent.1 in
    (first, second, c.in-Err-enter.ensures.waiting)
