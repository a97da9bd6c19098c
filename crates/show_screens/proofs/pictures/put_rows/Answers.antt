-- Nothing is put before the first line; then one more, or none after it.
use Rattle.std.proofs.Common.{rules, ◌≡◌, Err}
use Rattle.show_streams.proofs.OnePut.{writes_none}
use Rattle.show_screens.proofs.RowPuts.{row_put, row_failed, rows_put}
use Rattle.show_screens.proofs.pictures.put_rows.Goals as goal

pub loop-row-init : goal.loop-row-init
loop-row-init g c = writes_none _ _

pub loop-row-preserved : goal.loop-row-preserved
loop-row-preserved g c = row_put c.args.rows.now c.loop-row.row-index c.row-item.result _ _ _ _ _ _ c.loop-row-test.true c.row-item.is c.loop-row.invariant c.in_ok-put_row.ensures.writes

pub returns-in_err-put_row : goal.returns-in_err-put_row
returns-in_err-put_row g c =
    let failed : c.from_residual.result ≡ Err c.in_err-put_row.field-0.0 = search rules in
    record {
      writes = rw failed (row_failed c.args.rows.now c.loop-row.row-index c.row-item.result _ _ _ _ _ _ _ c.loop-row-test.true c.row-item.is c.loop-row.invariant c.in_err-put_row.ensures.writes);
    }

pub returns : goal.returns
returns g c = record { writes = rows_put c.args.rows.now c.loop-row.row-index _ _ _ _ c.loop-row-test.false c.loop-row.invariant }
