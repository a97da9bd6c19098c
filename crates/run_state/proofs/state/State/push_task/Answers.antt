use Rattle.std.proofs.Common.{refl, ◌∙◌, ◌∷◌, ◌++◌, [], ap, sym}
use Rattle.run_owed.specs.Owing.{Owing}
use Rattle.run_owed.proofs.Tables.{values_more}
use Rattle.run_state.specs.Heights.{task_scope, task_scopes}
use Rattle.run_state.proofs.Pushed.{tasks_pushed}
use Rattle.run_state.proofs.Unchanged.{tasks_same, tasks_stay}
use Rattle.run_state.proofs.state.State.push_task.Goals as goal

pub returns-in-Ok-clause-pushed : goal.returns-in-Ok-clause-pushed
returns-in-Ok-clause-pushed g c = λ kept. tasks_pushed kept c.args.self.now c.enter_task.new.self c.push.new.self c.args.task (task_scope c.args.row) c.args.row c.in-Ok.ensures.ok c.in_ok-push.ensures.ok

pub returns-in-Err-clause-err : goal.returns-in-Err-clause-err
returns-in-Err-clause-err g c =
    tasks_same c.args.self.now c.enter_task.new.self c.take_last.new.self _ _ _ _ _ _ _ c.in-Err.ensures.err (c.take_last.ensures.off c.args.self.now.tasks (c.args.task, c.args.row) c.in_ok-push.ensures.ok)

pub enter_task-requires : goal.enter_task-requires
enter_task-requires g c = record { entered = c.requires.live }

pub returns-in_err-push-clause-err : goal.returns-in_err-push-clause-err
returns-in_err-push-clause-err g c = tasks_stay c.from_residual.result c.args.self.now c.args.self.now.owed c.push.new.self _ _ _ _ _ _ _ refl c.in_err-push.ensures.err

pub invariant_of-self-in-Ok-clause-known : goal.invariant_of-self-in-Ok-clause-known
invariant_of-self-in-Ok-clause-known g c =
    ap task_scopes c.in_ok-push.ensures.ok
    ∙ values_more task_scope c.args.self.now.tasks c.args.task c.args.row
    ∙ ap (λ es. es ++ (c.args.task, task_scope c.args.row) ∷ []) c.args.self.now.known
    ∙ sym (ap (λ (o : Owing). o.tasks) c.in-Ok.ensures.ok)

pub invariant_of-self-in-Err-clause-known : goal.invariant_of-self-in-Err-clause-known
invariant_of-self-in-Err-clause-known g c =
    ap task_scopes (c.take_last.ensures.off c.args.self.now.tasks (c.args.task, c.args.row) c.in_ok-push.ensures.ok)
    ∙ c.args.self.now.known
    ∙ sym (ap (λ (o : Owing). o.tasks) c.in-Err.ensures.err)
