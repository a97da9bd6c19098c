use Rattle.rt_sched.proofs.RollLemmas.{lines_forget}
use Rattle.rt_sched.proofs.roll.forget_all.Goals as goal

pub returns-clause-lines : goal.returns-clause-lines
returns-clause-lines c =
    lines_forget c.args.number c.args.entered.now c.args.ready.now c.args.posted.now c.forget.new.self c.forget-2.new.self c.forget-3.new.self c.requires.lines
    c.forget.ensures.left c.forget-2.ensures.left c.forget-3.ensures.left c.forget.ensures.waiting c.forget-2.ensures.waiting c.forget-3.ensures.waiting
