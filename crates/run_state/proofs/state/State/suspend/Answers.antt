use Rattle.std.proofs.Common.{rules, refl}
use Rattle.rt_model.specs.State.{SuspendedTask}
use Rattle.run_state.specs.declared.names.TaskKind.TheVariants.{Suspended}
use Rattle.run_state.proofs.state.State.suspend.Goals as goal

pub returns : goal.returns
returns g c =
    c.change_task.ensures
    (record { code = λ x. record x { kind = Suspended }; model = λ x. record x { kind = SuspendedTask }; same = λ x. refl })
    (λ x y ret. search rules)

pub change_task-requires-clause-stay : goal.change_task-requires-clause-stay
change_task-requires-clause-stay g c = λ x y done ret. search rules
