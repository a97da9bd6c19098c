use Rattle.std.proofs.Common.{rules, refl}
use Rattle.rt_model.specs.State as model
use Rattle.tree_mirror.specs.Sealed.{component_of}
use Rattle.run_state.proofs.state.State.put_component.Goals as goal

pub returns : goal.returns
returns g c =
    c.change_scope.ensures
    (record {
      code = λ x. record x { rest = record (x.rest) { component = c.args.component } };
      model = λ x. record x { component = component_of c.args.component };
      same = λ x. refl;
    })
    (λ x y ret. search rules)

pub change_scope-requires-clause-stay : goal.change_scope-requires-clause-stay
change_scope-requires-clause-stay g c = λ x y done ret. search rules
