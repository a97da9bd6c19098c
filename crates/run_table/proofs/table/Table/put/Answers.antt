use Rattle.run_table.proofs.Rows.{put-row, put-absent}
use Rattle.run_table.proofs.Ascending.{ascends-set}
use Rattle.run_table.proofs.Listed.{listed-set}
use Rattle.run_table.proofs.table.Table.put.Goals as goal

pub invariant_of-self : goal.invariant_of-self
invariant_of-self g c =
    let rows = c.self.inside.rows.items in
    record {
      ascends = λ rising. ascends-set rows c.in-Some.index c.args.number c.args.value (rw c.self.view_is c.in-Some.ensures.within) (rw c.self.view_is c.in-Some.ensures.own) (c.self.invariant.ascends rising);
      lists = λ listed. listed-set rows c.in-Some.index c.args.number c.args.value c.self.inside.firsts (rw c.self.view_is c.in-Some.ensures.within) (rw c.self.view_is c.in-Some.ensures.own) (c.self.invariant.lists listed);
    }

pub returns-in-Some-clause-ok : goal.returns-in-Some-clause-ok
returns-in-Some-clause-ok g c =
    put-row c.self.inside.rows.items c.args.self.now c.args.number c.in-Some.index c.args.value c.self.view_is c.in-Some.ensures.within c.in-Some.ensures.own c.in-Some.ensures.first

pub returns-in-None-clause-ok : goal.returns-in-None-clause-ok
returns-in-None-clause-ok g c = rw (put-absent c.args.self.now c.args.number c.args.value c.in-None.ensures.absent) c.push.ensures.ok
