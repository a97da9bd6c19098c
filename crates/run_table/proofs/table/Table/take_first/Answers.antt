use Rattle.std.proofs.Common.{ap, get_or, ◌∙◌}
use Rattle.std.specs.Prelude.{remove}
use Rattle.run_table.proofs.Ascending.{ascends-removed}
use Rattle.run_table.proofs.Taken.{taken_under}
use Rattle.run_table.proofs.table.Table.take_first.Goals as goal

pub invariant_of-self : goal.invariant_of-self
invariant_of-self g c =
    record {
      ascends =
          λ rising.
          rw c.remove-number.ensures.items
          (ascends-removed c.self.inside.rows.items c.in_ok-index.index (rw c.self.view_is c.in_ok-index.ensures.within) (c.self.invariant.ascends rising));
      lists = λ listed. absurd (cc listed);
    }

pub returns-clause-within : goal.returns-clause-within
returns-clause-within g c =
    taken_under c.args.self.now c.remove-number.new.self.items c.in_ok-index.index c.args.number c.remove-number.result c.in_ok-index.ensures.within c.in_ok-index.ensures.own (c.remove-number.ensures.value ∙ ap (λ rows. get_or rows c.in_ok-index.index c.remove-number.result) c.self.view_is)
    (c.remove-number.ensures.items ∙ ap (λ rows. remove rows c.in_ok-index.index) c.self.view_is)
