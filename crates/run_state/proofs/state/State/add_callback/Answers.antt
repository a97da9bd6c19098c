use Rattle.std.proofs.Common.{rules, ◌++◌, ◌∷◌, [], refl}
use Rattle.run_state.proofs.state.State.add_callback.Goals as goal

pub returns-clause-added : goal.returns-clause-added
returns-clause-added g c =
    c.change_asked.ensures.changed
    (record {
      code = λ x. record x { rest = record (x.rest) { callbacks = (x.rest).callbacks ++ (c.args.scope, c.args.effect) ∷ [] } };
      model = λ x. record x { callbacks = x.callbacks ++ (c.args.scope, c.args.effect) ∷ [] };
      same = λ x. refl;
    })
    (λ x y ret. search rules)

pub returns-clause-err : goal.returns-clause-err
returns-clause-err g c = c.change_asked.ensures.err (λ x y ret. search rules)

pub change_asked-requires-clause-stay : goal.change_asked-requires-clause-stay
change_asked-requires-clause-stay g c = λ x y done ret. search rules
