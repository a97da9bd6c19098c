-- The value in the box of the number's first row is changed.
use Rattle.run_table.proofs.Rows.{put-value, value-was}
use Rattle.run_table.proofs.Ascending.{ascends-value}
use Rattle.run_table.proofs.Listed.{listed-value}
use Rattle.run_table.proofs.table.Table+Boxed+T.change_boxed.Goals as goal

pub invariant_of-self : goal.invariant_of-self
invariant_of-self g c =
    let rows = c.self.inside.rows.items in
    record {
      ascends = λ rising. ascends-value rows c.in-Some.index c.index_mut.result.now c.change.new.self (rw c.self.view_is c.in-Some.ensures.within) c.index_mut.ensures.value (c.self.invariant.ascends rising);
      lists = λ listed. listed-value rows c.in-Some.index c.index_mut.result.now c.change.new.self c.self.inside.firsts (rw c.self.view_is c.in-Some.ensures.within) c.index_mut.ensures.value (c.self.invariant.lists listed);
    }

pub returns-in-Some-clause-changed : goal.returns-in-Some-clause-changed
returns-in-Some-clause-changed g c =
    λ old stood.
    let view = c.self.view_is in
    let here = c.in-Some.ensures in
    let was = value-was c.self.inside.rows.items c.args.self.now c.args.number c.in-Some.index c.index_mut.result.now old view here.within here.own here.first c.index_mut.ensures.value stood in (
      c.change.new.self,
      (rw was c.change.ensures),
      put-value c.self.inside.rows.items c.args.self.now c.args.number c.in-Some.index c.index_mut.result.now c.change.new.self view here.within here.own here.first c.index_mut.ensures.value,
    )
