use Rattle.std.proofs.Common.{arith, ◌∙◌}
use Rattle.std.proofs.lemmas.Bool.Decides.{nat_tests}
use Rattle.run_table.proofs.Ascending.{ascends-after, ascends-first}
use Rattle.run_table.proofs.table.Table.push.Goals as goal
use Rattle.run_table.proofs.table.Table.push.Goals.{in-Some+then-self, in-Some+else-self, in-None}

pub invariant_of-self-2 : goal.invariant_of-self-2
invariant_of-self-2 g c =
    record {
      ascends =
          λ rising.
          rw c.in_ok-push.ensures.items
          (elim c.match-last.branch [
            | in-Some+then-self w ↦ rw w.self-inside-is
                (ascends-after c.self.inside.rows.items c.deref.result.now c.args.number c.args.value w.in-Some.last c.deref.ensures.value w.in-Some.ensures.item (grind (arith, nat_tests, w.rising-is, rising)) (c.self.invariant.ascends w.if-self.true))
            | in-Some+else-self w ↦ absurd (grind (arith, w.rising-is, w.if-self.false, rising))
            | in-None w ↦ rw w.self-inside-is
                (ascends-first c.self.inside.rows.items c.deref.result.now c.args.number c.args.value c.deref.ensures.value w.in-None.ensures.item)
          ]);
      lists =
          λ listed.
          let before = c.match-last.self-inside.rows.items in
          let grown = c.as_slice-rows.ensures.value ∙ c.in_ok-push.ensures.items in
          rw (← c.as_slice-rows.ensures.value)
          (elim c.match-last.branch [
            | in-Some+then-self w ↦ c.relisted-self-inside.ensures listed before c.args.value grown (rw w.self-inside-is c.self.invariant.lists)
            | in-Some+else-self w ↦ c.relisted-self-inside.ensures listed before c.args.value grown (rw w.self-inside-is c.self.invariant.lists)
            | in-None w ↦ c.relisted-self-inside.ensures listed before c.args.value grown (rw w.self-inside-is c.self.invariant.lists)
          ]);
    }
