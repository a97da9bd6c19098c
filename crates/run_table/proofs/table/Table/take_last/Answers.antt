-- The last one goes.
use Rattle.std.proofs.Common.{◌≡◌, ◌-◌, ◌∙◌, length, ap, arith}
use Rattle.std.specs.Prelude.{remove}
use Rattle.run_table.proofs.Taken.{last_off, some_last}
use Rattle.run_table.proofs.table.Table.take_last.Goals as goal

pub returns-then-count-eq0 : goal.returns-then-count-eq0
returns-then-count-eq0 g c =
    record {
      off = λ es e is.
          let long : length c.as_slice-count.result.now ≡ length c.args.self.now = ap length c.as_slice-count.ensures.rows in
          let some = some_last es e in
          absurd (omega (arith, some, long, ap length is, c.if-count-eq0.true));
    }

pub returns : goal.returns
returns g c =
    record {
      off = λ es e is.
          c.remove_at.ensures.others
          ∙ ap (λ k. remove c.args.self.now (k - 1)) (ap length c.as_slice-count.ensures.rows)
          ∙ ap (λ rows. remove rows (length rows - 1)) is
          ∙ last_off es e;
    }
