-- The reports follow the edits, or none is begun.
use Rattle.std.proofs.Common.{rules, ◌≡◌, Err}
use Rattle.show_words.specs.Texts.{report_lines_from}
use Rattle.show_words.proofs.Puts.{writes_both, writes_first}
use Rattle.show_words.proofs.writing.put_printed.Goals as goal

pub returns : goal.returns
returns g c = record { writes = writes_both _ _ _ _ _ _ _ _ _ c.in_ok-put_lines.ensures.writes c.put_reports.ensures.writes }

pub returns-in_err-put_lines : goal.returns-in_err-put_lines
returns-in_err-put_lines g c =
    let failed : c.from_residual.result ≡ Err c.in_err-put_lines.field-0.0 = search rules in
    record {
      writes = rw failed
          (writes_first (c.args.lines.now) (report_lines_from 0 c.args.reports.now) _ _ _ _ c.in_err-put_lines.field-0.0
          c.in_err-put_lines.ensures.writes);
    }
