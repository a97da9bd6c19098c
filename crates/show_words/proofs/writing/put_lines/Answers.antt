-- Nothing is put before the first line; then one more, or none after it.
use Rattle.std.proofs.Common.{rules, ◌≡◌, Err}
use Rattle.show_streams.proofs.OnePut.{writes_none}
use Rattle.show_words.proofs.Puts.{line_put, line_failed, lines_put}
use Rattle.show_words.proofs.writing.put_lines.Goals as goal

pub loop-line-init : goal.loop-line-init
loop-line-init g c = writes_none _ _

pub loop-line-preserved : goal.loop-line-preserved
loop-line-preserved g c =
    line_put c.args.lines.now c.loop-line.line-index c.line-item.result _ _ _ _ _ _ c.loop-line-test.true c.line-item.is c.loop-line.invariant
    (rw c.as_slice.ensures.items at c.in_ok-put.ensures.writes)

pub returns-in_err-put : goal.returns-in_err-put
returns-in_err-put g c =
    let failed : c.from_residual.result ≡ Err c.in_err-put.field-0.0 = search rules in
    record {
      writes = rw failed
          (line_failed c.args.lines.now c.loop-line.line-index c.line-item.result _ _ _ _ _ _ _ c.loop-line-test.true c.line-item.is c.loop-line.invariant
          (rw c.as_slice.ensures.items at c.in_err-put.ensures.writes));
    }

pub returns : goal.returns
returns g c = record { writes = lines_put c.args.lines.now c.loop-line.line-index _ _ _ _ c.loop-line-test.false c.loop-line.invariant }
