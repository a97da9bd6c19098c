use Rattle.std.proofs.Common.{rules, refl}
use Rattle.run_state.proofs.state.State.make_active.Goals as goal

pub returns : goal.returns
returns g c =
    c.change_surely.ensures
    (record { code = λ x. record x { active = c.args.active }; model = λ x. record x { active = c.args.active }; same = λ x. refl })
    (λ x y done ret. search rules)

pub change_surely-requires-clause-stay : goal.change_surely-requires-clause-stay
change_surely-requires-clause-stay g c = λ x y done ret. search rules
