use Rattle.std.proofs.Common.{rules}
use Rattle.run_table.proofs.Rows.{row-at, set-at}
use Rattle.run_table.proofs.Ascending.{ascends-value}
use Rattle.run_table.proofs.Listed.{listed-value}
use Rattle.run_table.proofs.table.Table.change_at.Goals as goal

pub invariant_of-self : goal.invariant_of-self
invariant_of-self g c =
    let rows = c.self.inside.rows.items in
    record {
      ascends = λ rising. ascends-value rows c.args.index c.index_mut.result.now c.change.new.arg2 (rw c.self.view_is c.requires.within) c.index_mut.ensures.value (c.self.invariant.ascends rising);
      lists =
          λ listed.
          listed-value rows c.args.index c.index_mut.result.now c.change.new.arg2 c.self.inside.firsts (rw c.self.view_is c.requires.within) c.index_mut.ensures.value (c.self.invariant.lists listed);
    }

pub returns : goal.returns
returns g c =
    λ row.
    let here = row-at c.self.inside.rows.items c.args.self.now c.args.index c.index_mut.result.now row c.self.view_is c.requires.within c.index_mut.ensures.value in (
      c.change.new.arg2,
      (rw here (search rules)),
      set-at c.self.inside.rows.items c.args.self.now c.args.index c.index_mut.result.now row c.change.new.arg2 c.self.view_is c.requires.within c.index_mut.ensures.value,
    )
