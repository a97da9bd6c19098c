-- Nothing is put before the first line; then one more, or none after it.
use Rattle.std.proofs.Common.{rules, ◌≡◌, Err}
use Rattle.show_streams.proofs.OnePut.{writes_none}
use Rattle.show_words.proofs.Puts.{report_put, report_failed, reports_put}
use Rattle.show_words.proofs.writing.put_reports.Goals as goal

pub loop-number-init : goal.loop-number-init
loop-number-init g c = writes_none _ _

pub loop-number-preserved : goal.loop-number-preserved
loop-number-preserved g c = report_put c.args.reports.now c.loop-number.number c.index-reports-number.result _ _ _ _ _ _ c.loop-number-test.true c.index-reports-number.is c.loop-number.invariant c.in_ok-put_report.ensures.writes

pub returns-in_err-put_report : goal.returns-in_err-put_report
returns-in_err-put_report g c =
    let failed : c.from_residual.result ≡ Err c.in_err-put_report.field-0.0 = search rules in
    record {
      writes = rw failed (report_failed c.args.reports.now c.loop-number.number c.index-reports-number.result _ _ _ _ _ _ _ c.loop-number-test.true c.index-reports-number.is c.loop-number.invariant c.in_err-put_report.ensures.writes);
    }

pub returns : goal.returns
returns g c = record { writes = reports_put c.args.reports.now c.loop-number.number _ _ _ _ c.loop-number-test.false c.loop-number.invariant }
