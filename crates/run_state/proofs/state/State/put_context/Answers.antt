use Rattle.std.proofs.Common.{rules}
use Rattle.rt_model.specs.Lists.{put}
use Rattle.run_records.specs.Kept.{scope_of}
use Rattle.run_records.specs.Provisions.{put_provided}
use Rattle.run_state.proofs.Provides.{put-mirrored}
use Rattle.run_state.proofs.state.State.put_context.Goals as goal

pub returns-clause-put : goal.returns-clause-put
returns-clause-put g c =
    c.change_asked.ensures.changed
    (record {
      code = λ x. record x { row = record (x.row) { contexts = put_provided (x.row).contexts c.args.kind c.args.value } };
      model = λ x. record x { contexts = put x.contexts c.args.kind c.args.value };
      same = λ x i. record (scope_of x) { contexts = put-mirrored (x.row).contexts c.args.kind c.args.value i };
    })
    (λ x y ret. search rules)

pub returns-clause-err : goal.returns-clause-err
returns-clause-err g c = c.change_asked.ensures.err (λ x y ret. search rules)

pub change_asked-requires-clause-stay : goal.change_asked-requires-clause-stay
change_asked-requires-clause-stay g c = λ x y done ret. search rules
