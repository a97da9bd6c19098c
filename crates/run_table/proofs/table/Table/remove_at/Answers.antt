use Rattle.run_table.proofs.Ascending.{ascends-removed}
use Rattle.run_table.proofs.table.Table.remove_at.Goals as goal

pub invariant_of-self : goal.invariant_of-self
invariant_of-self g c =
    record {
      ascends =
          λ rising.
          rw c.remove-row.ensures.items
          (ascends-removed c.self.inside.rows.items c.args.index (rw c.self.view_is c.requires.within) (c.self.invariant.ascends rising));
      lists = λ listed. absurd (cc listed);
    }
