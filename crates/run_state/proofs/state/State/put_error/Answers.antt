use Rattle.std.proofs.Common.{rules, refl}
use Rattle.std.specs.Prelude.{option_map}
use Rattle.tree_mirror.specs.Mirror.{error_of}
use Rattle.run_state.proofs.state.State.put_error.Goals as goal

pub returns-clause-put : goal.returns-clause-put
returns-clause-put g c =
    c.change_asked.ensures.changed
    (record {
      code = λ x. record x { row = record (x.row) { error = c.args.error } };
      model = λ x. record x { error = option_map error_of c.args.error };
      same = λ x. refl;
    })
    (λ x y ret. search rules)

pub returns-clause-err : goal.returns-clause-err
returns-clause-err g c = c.change_asked.ensures.err (λ x y ret. search rules)

pub change_asked-requires-clause-stay : goal.change_asked-requires-clause-stay
change_asked-requires-clause-stay g c = λ x y done ret. search rules
