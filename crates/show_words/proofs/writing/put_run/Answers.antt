-- The reports follow the edits, or none is begun.
use Rattle.std.proofs.Common.{rules, ◌≡◌, Err}
use Rattle.show_words.specs.Texts.{lines_of, report_lines_from}
use Rattle.show_words.proofs.Puts.{writes_both, writes_first}
use Rattle.show_words.proofs.writing.put_run.Goals as goal

pub returns : goal.returns
returns g c = record { writes = writes_both _ _ _ _ _ _ _ _ _ c.in_ok-put_edits.ensures.writes c.put_reports.ensures.writes }

pub returns-in_err-put_edits : goal.returns-in_err-put_edits
returns-in_err-put_edits g c =
    let failed : c.from_residual.result ≡ Err c.in_err-put_edits.field-0.0 = search rules in
    record {
      writes = rw failed
          (writes_first (lines_of c.args.edits.now) (report_lines_from 0 c.args.reports.now) _ _ _ _ c.in_err-put_edits.field-0.0
          c.in_err-put_edits.ensures.writes);
    }
