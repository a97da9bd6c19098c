use Rattle.std.proofs.Common.{rules, refl, true}
use Rattle.run_state.proofs.state.State.freeze_boundary.Goals as goal

pub returns-clause-frozen : goal.returns-clause-frozen
returns-clause-frozen g c =
    c.change_asked.ensures.changed
    (record {
      code = λ x. record x { rest = record (x.rest) { frozen = true } };
      model = λ x. record x { frozen = true };
      same = λ x. refl;
    })
    (λ x y ret. search rules)

pub returns-clause-err : goal.returns-clause-err
returns-clause-err g c = c.change_asked.ensures.err (λ x y ret. search rules)

pub change_asked-requires-clause-stay : goal.change_asked-requires-clause-stay
change_asked-requires-clause-stay g c = λ x y done ret. search rules
