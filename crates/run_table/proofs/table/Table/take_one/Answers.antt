use Rattle.std.proofs.Common.{ap, sym, ◌∙◌}
use Rattle.std.specs.Prelude.{remove}
use Rattle.run_table.proofs.Rows.{without-absent}
use Rattle.run_table.proofs.Single.{removed-once}
use Rattle.run_table.proofs.Ascending.{ascends-removed}
use Rattle.run_table.proofs.table.Table.take_one.Goals as goal

pub invariant_of-self : goal.invariant_of-self
invariant_of-self g c =
    record {
      ascends =
          λ rising.
          rw c.remove-number.ensures.items
          (ascends-removed c.self.inside.rows.items c.in_ok-index.index (rw c.self.view_is c.in_ok-index.ensures.within) (c.self.invariant.ascends rising));
      lists = λ listed. absurd (cc listed);
    }

pub returns-in_err-index-clause-others : goal.returns-in_err-index-clause-others
returns-in_err-index-clause-others g c =
    sym (without-absent c.args.self.now c.args.number c.in_err-index.ensures.absent)

pub returns-clause-others : goal.returns-clause-others
returns-clause-others g c =
    c.remove-number.ensures.items
    ∙ ap (λ rows. remove rows c.in_ok-index.index) c.self.view_is
    ∙ removed-once c.args.self.now c.args.number c.in_ok-index.index c.requires.ascending c.in_ok-index.ensures.within c.in_ok-index.ensures.own
