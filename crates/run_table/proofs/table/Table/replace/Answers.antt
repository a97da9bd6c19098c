use Rattle.std.proofs.Common.{ap, ◌∙◌}
use Rattle.std.specs.Prelude.{slice_set}
use Rattle.run_table.proofs.Rows.{put-row}
use Rattle.run_table.proofs.Ascending.{ascends-set}
use Rattle.run_table.proofs.Listed.{listed-set}
use Rattle.run_table.proofs.table.Table.replace.Goals as goal

pub invariant_of-self : goal.invariant_of-self
invariant_of-self g c =
    let rows = c.self.inside.rows.items in
    record {
      ascends =
          λ rising.
          rw c.replace-number.ensures.after (ascends-set rows c.in-Some.index c.args.number c.args.value (rw c.self.view_is c.in-Some.ensures.within) (rw c.self.view_is c.in-Some.ensures.own) (c.self.invariant.ascends rising));
      lists =
          λ listed.
          rw c.replace-number.ensures.after (listed-set rows c.in-Some.index c.args.number c.args.value c.self.inside.firsts (rw c.self.view_is c.in-Some.ensures.within) (rw c.self.view_is c.in-Some.ensures.own) (c.self.invariant.lists listed));
    }

pub returns-in-Some-clause-put : goal.returns-in-Some-clause-put
returns-in-Some-clause-put g c =
    ap (λ row. slice_set c.self.inside.rows.items c.in-Some.index row) c.replace-number.ensures.after
    ∙ put-row c.self.inside.rows.items c.args.self.now c.args.number c.in-Some.index c.args.value c.self.view_is c.in-Some.ensures.within c.in-Some.ensures.own c.in-Some.ensures.first
