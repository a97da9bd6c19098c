use Rattle.std.proofs.Common.{rules, refl}
use Rattle.std.specs.Prelude.{Some}
use Rattle.run_state.proofs.state.State.keep_state.Goals as goal

pub returns : goal.returns
returns g c =
    c.change_task.ensures
    (record { code = λ x. record x { state = Some c.args.state; was = c.of-was.result }; model = λ x. record x { state = c.args.state }; same = λ x. refl })
    (λ x y ret. search rules)

pub change_task-requires-clause-stay : goal.change_task-requires-clause-stay
change_task-requires-clause-stay g c = λ x y done ret. search rules
