-- The first task of the scope ends, and those of the rest are left.
use Rattle.std.proofs.Common.{◌∙◌, refl, sym, ap, subst}
use Rattle.run_owed.specs.Lists.{EachOnce, first_with, numbers_of}
use Rattle.run_state.specs.Mirror.{at_first, state_of}
use Rattle.run_state.proofs.Owned.{ends_first, ends_none, fewer_tasks}
use Rattle.run_state.proofs.state.State.end_tasks.Goals as goal

pub loop-task-init : goal.loop-task-init
loop-task-init g c = λ kept. refl

pub loop-task-smaller : goal.loop-task-smaller
loop-task-smaller g c =
    let known = c.loop-task.self.known in
    fewer_tasks (state_of at_first c.loop-task.self) (state_of at_first c.end.new.self) c.loop-task.self.tasks c.end.new.self.tasks c.args.scope c.in-Some.task refl refl (c.in_ok-end.ensures at_first)
    (ap (first_with c.args.scope) known ∙ sym c.in-Some.ensures.first)

pub loop-task-preserved : goal.loop-task-preserved
loop-task-preserved g c = λ kept.
    let known = c.loop-task.self.known in
    ends_first (state_of kept c.loop-task.self) (state_of kept c.end.new.self) c.loop-task.self.tasks c.args.scope c.in-Some.task refl (c.in_ok-end.ensures kept)
    (subst (λ es. EachOnce (numbers_of es)) (sym known) c.tasks_apart.ensures.apart) (ap (first_with c.args.scope) known ∙ sym c.in-Some.ensures.first)
    ∙ c.loop-task.invariant kept

pub returns : goal.returns
returns g c = λ kept.
    ends_none (state_of kept c.loop-task.self) c.loop-task.self.tasks c.args.scope refl (ap (first_with c.args.scope) c.loop-task.self.known ∙ sym c.in_default.ensures.first)
    ∙ c.loop-task.invariant kept
