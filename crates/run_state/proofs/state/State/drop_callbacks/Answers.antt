use Rattle.std.proofs.Common.{rules, [], refl}
use Rattle.run_state.proofs.state.State.drop_callbacks.Goals as goal

pub returns : goal.returns
returns g c =
    c.change_scope.ensures
    (record { code = λ x. record x { rest = record (x.rest) { callbacks = [] } }; model = λ x. record x { callbacks = [] }; same = λ x. refl })
    (λ x y ret. search rules)

pub change_scope-requires-clause-stay : goal.change_scope-requires-clause-stay
change_scope-requires-clause-stay g c = λ x y done ret. search rules
