-- One line more, or where the program stops.
use Rattle.std.proofs.Common.{rules, ◌≡◌, Some, None, Err, arith, sym, ap, ◌∙◌, subst}
use Rattle.show_lines.specs.Held.{unread}
use Rattle.show_lines.specs.Lines.{ReadsLine}
use Rattle.show_stream.proofs.Reading.{goes_on, goes_over, goes_stop, goes_wanting, goes_without}
use Rattle.show_streams.specs.Reads.{preceded}
use Rattle.show_stream.proofs.streamed.go_on.Goals as goal

pub loop-init : goal.loop-init
loop-init g c = record {
  goes = λ start at first lines text reading is put. record { lines = lines; text = text; reading = reading; is = is; put = put };
  read = omega arith;
  written = omega arith;
}

pub loop-preserved : goal.loop-preserved
loop-preserved g c =
    let before = preceded (unread c.loop.reader) (g.S.Source.left c.loop.source) in
    let after = preceded (unread c.line_of.new.reader) (g.S.Source.left c.line_of.new.source) in
    let same : c.as_slice.result.now ≡ c.in-Some.bytes = search rules in
    let some : c.in_ok-bytes.field-0 ≡ Some c.as_slice.result.now = c.in-Some.is ∙ ap Some (sym same) in
    let reads : ReadsLine (Some c.as_slice.result.now) before after = subst (λ found. ReadsLine found before after) some c.in_ok-bytes.ensures.line in
    record {
      goes = λ start at first lines text reading is put.
          let so = c.loop.invariant.goes start at first lines text reading is put in
          goes_on g.T.Tells.form start at first before (g.O.Out.puts c.loop.out) c.loop.streaming so c.as_slice.result.now after reads (g.O.Out.puts c.answer.new.out) c.answer.new.self
          (g.O.Out.faults c.loop.out) (g.O.Out.faults c.answer.new.out) (c.in_ok-answer.ensures.answers first so.lines so.text so.is);
      read =
          let was = c.loop.invariant.read in
          let now = c.in_ok-bytes.ensures.later in
          omega (arith, was, now);
      written =
          let was = c.loop.invariant.written in
          let now = c.in_ok-answer.ensures.later in
          omega (arith, was, now);
    }

pub returns-in_err-bytes : goal.returns-in_err-bytes
returns-in_err-bytes g c =
    let stopped : c.from_residual.result ≡ Err c.in_err-bytes.field-0.0 = search rules in
    record {
      goes_on = λ start at first lines text reading is put.
          rw stopped
          (goes_without g.T.Tells.form start at first (preceded (unread c.loop.reader) (g.S.Source.left c.loop.source)) (g.O.Out.puts c.loop.out) c.loop.streaming
          (c.loop.invariant.goes start at first lines text reading is put)
          (g.S.Source.faults c.args.source.now) (g.S.Source.faults c.loop.source) (g.S.Source.faults c.line_of.new.source) (g.O.Out.faults c.args.out.now) (g.O.Out.faults c.loop.out)
          c.in_err-bytes.field-0.0 c.loop.invariant.read (c.holds.ensures.streamed g.T.Tells.form) c.in_err-bytes.ensures.stops);
    }

pub returns-in_default : goal.returns-in_default
returns-in_default g c =
    let before = preceded (unread c.loop.reader) (g.S.Source.left c.loop.source) in
    let after = preceded (unread c.line_of.new.reader) (g.S.Source.left c.line_of.new.source) in
    let reads : ReadsLine None before after = subst (λ found. ReadsLine found before after) c.in_default.is c.in_ok-bytes.ensures.line in
    record {
      goes_on = λ start at first lines text reading is put.
          goes_over g.T.Tells.form start at first before (g.O.Out.puts c.loop.out) c.loop.streaming (c.loop.invariant.goes start at first lines text reading is put)
          after (g.S.Source.faults c.args.source.now) (g.S.Source.faults c.line_of.new.source) (g.O.Out.faults c.args.out.now) (g.O.Out.faults c.loop.out) (c.holds.ensures.streamed g.T.Tells.form) reads;
    }

pub returns-in_err-answer : goal.returns-in_err-answer
returns-in_err-answer g c =
    let before = preceded (unread c.loop.reader) (g.S.Source.left c.loop.source) in
    let after = preceded (unread c.line_of.new.reader) (g.S.Source.left c.line_of.new.source) in
    let same : c.as_slice.result.now ≡ c.in-Some.bytes = search rules in
    let some : c.in_ok-bytes.field-0 ≡ Some c.as_slice.result.now = c.in-Some.is ∙ ap Some (sym same) in
    let reads : ReadsLine (Some c.as_slice.result.now) before after = subst (λ found. ReadsLine found before after) some c.in_ok-bytes.ensures.line in
    let stopped : c.from_residual-in_err-answer.result ≡ Err c.in_err-answer.field-0.0 = search rules in
    record {
      goes_on = λ start at first lines text reading is put.
          let so = c.loop.invariant.goes start at first lines text reading is put in
          rw stopped
          (goes_stop g.T.Tells.form start at first before (g.O.Out.puts c.loop.out) c.loop.streaming so c.as_slice.result.now after reads (g.O.Out.puts c.answer.new.out) c.answer.new.self
          (g.S.Source.faults c.args.source.now) (g.S.Source.faults c.line_of.new.source) (g.O.Out.faults c.args.out.now) (g.O.Out.faults c.loop.out) (g.O.Out.faults c.answer.new.out)
          c.in_err-answer.field-0.0 c.loop.invariant.written (c.in_err-answer.ensures.answers first so.lines so.text so.is));
    }

pub returns : goal.returns
returns g c = record {
  goes_on = λ start at first lines text reading is put.
      goes_wanting g.T.Tells.form start at first (preceded (unread c.loop.reader) (g.S.Source.left c.loop.source)) (g.O.Out.puts c.loop.out) c.loop.streaming
      (c.loop.invariant.goes start at first lines text reading is put)
      (g.S.Source.faults c.args.source.now) (g.S.Source.faults c.loop.source) (g.O.Out.faults c.args.out.now) (g.O.Out.faults c.loop.out) (c.holds-2.ensures.streamed g.T.Tells.form);
}
