-- As many rows as scopes.
use Rattle.std.proofs.Common.{◌≡◌, length, sym, ap, ◌∙◌}
use Rattle.run_records.proofs.RowsAt.{length-parents}
use Rattle.run_records.proofs.rows.Rows.len.Goals as goal

pub returns : goal.returns
returns g c = record { len = ap length c.as_slice.ensures.rows ∙ sym (length-parents c.args.self.now.table) }
