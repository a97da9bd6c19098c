use Rattle.std.proofs.Common.{rules, refl}
use Rattle.run_state.specs.Holders.{others}
use Rattle.run_state.proofs.HolderLists.{fewer_holders}
use Rattle.run_state.proofs.state.State.let_off.Goals as goal

pub returns-clause-off : goal.returns-clause-off
returns-clause-off g c =
    c.change_listed.ensures.changed
    (record {
      code = λ x. record x { rest = record (x.rest) { holders = others (x.rest).holders c.args.task } };
      model = λ x. record x { holders = others x.holders c.args.task };
      same = λ x. refl;
    })
    (λ x y ret. search rules)

pub change_listed-requires-clause-stay : goal.change_listed-requires-clause-stay
change_listed-requires-clause-stay g c = λ x y done ret. search rules

pub change_listed-requires-clause-listed : goal.change_listed-requires-clause-listed
change_listed-requires-clause-listed g c = λ x y done there ret h. fewer_holders c.args.self.now.effects c.args.self.now.held c.args.scope c.args.task x y (search rules) h
