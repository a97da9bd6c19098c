use Rattle.std.proofs.Common.{◌∙◌, sym}
use Rattle.std.specs.Prelude.{Some, None}
use Rattle.run_state.specs.Mirror.{task_of, state_of}
use Rattle.run_state.proofs.Each.{found-each}
use Rattle.run_state.proofs.Changed.{on_ok}
use Rattle.run_state.proofs.Spawned.{activated_gone, activated_woken, activated_quiet}
use Rattle.run_state.proofs.Unchanged.{never}
use Rattle.run_state.proofs.state.State.set_active.Goals as goal

pub returns-in_default-clause-activated : goal.returns-in_default-clause-activated
returns-in_default-clause-activated g c = λ kept.
    activated_gone (state_of kept c.args.self.now) c.args.task c.args.active (found-each task_of c.args.self.now.tasks c.args.task None c.in_default.ensures.value)

pub returns-then-wakes-clause-activated : goal.returns-then-wakes-clause-activated
returns-then-wakes-clause-activated g c =
    on_ok c.post.result c.post.ensures.posted (λ posted kept. posted kept
    ∙ activated_woken (state_of kept c.args.self.now) (state_of kept c.make_active.new.self) c.args.task c.args.active (task_of c.in-Some.row.now)
    (found-each task_of c.args.self.now.tasks c.args.task (Some c.in-Some.row.now) c.in-Some.ensures.value) (sym c.is_woken-wakes.ensures ∙ c.if-wakes.true) (c.make_active.ensures kept))

pub returns-else-wakes-clause-activated : goal.returns-else-wakes-clause-activated
returns-else-wakes-clause-activated g c = λ kept.
    activated_quiet (state_of kept c.args.self.now) (state_of kept c.make_active.new.self) c.args.task c.args.active (task_of c.in-Some.row.now)
    (found-each task_of c.args.self.now.tasks c.args.task (Some c.in-Some.row.now) c.in-Some.ensures.value) (sym c.is_woken-wakes.ensures ∙ c.if-wakes.false) (c.make_active.ensures kept)

pub returns-then-wakes-clause-err : goal.returns-then-wakes-clause-err
returns-then-wakes-clause-err g c = never _ c.post.result c.post.ensures.ok
