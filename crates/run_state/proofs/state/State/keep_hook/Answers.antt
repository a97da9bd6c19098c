use Rattle.std.proofs.Common.{rules, ◌++◌, ◌∷◌, []}
use Rattle.std.proofs.lemmas.List.{map-append}
use Rattle.run_records.specs.Records.{hook_of}
use Rattle.run_state.proofs.state.State.keep_hook.Goals as goal

pub returns : goal.returns
returns g c =
    c.change_scope.ensures
    (record {
      code = λ x. record x { row = record (x.row) { hooks = (x.row).hooks ++ c.args.hook ∷ [] } };
      model = λ x. record x { hooks = x.hooks ++ hook_of c.args.hook ∷ [] };
      same = λ x. simp map-append;
    })
    (λ x y ret. search rules)

pub change_scope-requires-clause-stay : goal.change_scope-requires-clause-stay
change_scope-requires-clause-stay g c = λ x y done ret. search rules
