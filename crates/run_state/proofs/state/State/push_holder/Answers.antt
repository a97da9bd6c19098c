use Rattle.std.proofs.Common.{rules, ◌++◌, ◌∷◌, [], refl}
use Rattle.run_state.proofs.HolderLists.{one_more_holder}
use Rattle.run_state.proofs.state.State.push_holder.Goals as goal

pub returns : goal.returns
returns g c =
    c.change_listed.ensures.changed
    (record {
      code = λ x. record x { rest = record (x.rest) { holders = (x.rest).holders ++ (c.args.task, c.args.origin) ∷ [] } };
      model = λ x. record x { holders = x.holders ++ (c.args.task, c.args.origin) ∷ [] };
      same = λ x. refl;
    })
    (λ x y ret. search rules)

pub change_listed-requires-clause-stay : goal.change_listed-requires-clause-stay
change_listed-requires-clause-stay g c = λ x y done ret. search rules

pub change_listed-requires-clause-listed : goal.change_listed-requires-clause-listed
change_listed-requires-clause-listed g c =
    λ x y done there ret h. one_more_holder done c.args.self.now.effects c.args.self.now.held c.args.boundary c.args.task c.args.origin x y (search rules) (search rules) c.requires.paired h
