-- The first line is opened, and then the others are answered.
use Rattle.std.proofs.Common.{rules, ◌≡◌, [], Err, subst}
use Rattle.show_lines.specs.Held.{unread}
use Rattle.show_stream.proofs.Reading.{comes_later, nothing_held}
use Rattle.show_stream.specs.Statuses.{Comes, IsReading}
use Rattle.show_streams.specs.Reads.{preceded}
use Rattle.show_stream.proofs.streamed.streamed.Goals as goal

pub returns-in_err-streaming : goal.returns-in_err-streaming
returns-in_err-streaming g c =
    let left = g.S.Source.left c.args.source.now in
    let none : preceded (unread c.new-reader.result) left ≡ left = nothing_held c.new-reader.result left c.new-reader.ensures.empty in
    let stopped : c.from_residual.result ≡ Err c.in_err-streaming.field-0.0 = search rules in
    record {
      comes =
          rw stopped
          (subst
          (λ start. Comes g.T.Tells.form start (g.O.Out.puts c.args.out.now) (g.O.Out.puts c.opened.new.out) (g.S.Source.faults c.args.source.now) (g.S.Source.faults c.opened.new.source)
          (g.O.Out.faults c.args.out.now) (g.O.Out.faults c.opened.new.out) (Err c.in_err-streaming.field-0.0))
          none c.in_err-streaming.ensures.opens);
    }

pub returns : goal.returns
returns g c =
    let left = g.S.Source.left c.args.source.now in
    let none : preceded (unread c.new-reader.result) left ≡ left = nothing_held c.new-reader.result left c.new-reader.ensures.empty in
    let opens = c.in_ok-streaming.ensures.opens in
    let now = preceded (unread c.opened.new.reader) (g.S.Source.left c.opened.new.source) in
    let reading : IsReading opens.0 [] left now = subst (λ start. IsReading opens.0 [] start now) none opens.2 in
    record {
      comes =
          comes_later g.T.Tells.form left (g.O.Out.puts c.args.out.now) (g.O.Out.puts c.go_on.new.out)
          (g.S.Source.faults c.args.source.now) (g.S.Source.faults c.opened.new.source) (g.S.Source.faults c.go_on.new.source)
          (g.O.Out.faults c.args.out.now) (g.O.Out.faults c.opened.new.out) (g.O.Out.faults c.go_on.new.out)
          c.go_on.result c.in_ok-streaming.ensures.later c.in_ok-streaming.ensures.written
          (c.go_on.ensures.goes_on left (g.O.Out.puts c.args.out.now) opens.0 [] opens.1 reading opens.3 opens.4);
    }
