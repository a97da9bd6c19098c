use Rattle.std.proofs.Common.{rules, refl}
use Rattle.std.specs.Prelude.{Some}
use Rattle.rt_model.specs.State as model
use Rattle.run_places.specs.Places.{side_name_of}
use Rattle.run_state.proofs.state.State.show.Goals as goal

pub returns : goal.returns
returns g c =
    c.turn_scope.ensures
    (record {
      code = λ x. record x { rest = record (x.rest) { shows = Some c.args.side } };
      model = λ x. record x { shows = Some (side_name_of c.args.side) };
      same = λ x. refl;
    })
    (λ x y ret. search rules)

pub turn_scope-requires-clause-stay : goal.turn_scope-requires-clause-stay
turn_scope-requires-clause-stay g c = λ x y done ret. search rules
