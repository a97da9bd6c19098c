-- The first line is opened, or it was not had.
use Rattle.std.proofs.Common.{rules, ◌≡◌, Some, None, Err, refl, sym, ap, ◌∙◌, subst}
use Rattle.show_lines.specs.Held.{unread}
use Rattle.show_lines.specs.Lines.{ReadsLine}
use Rattle.show_stream.proofs.Reading.{lacks_first, opens_first, without_first}
use Rattle.show_streams.specs.Reads.{preceded}
use Rattle.show_stream.proofs.streamed.opened.Goals as goal

pub returns-in_err-first-clause-opens : goal.returns-in_err-first-clause-opens
returns-in_err-first-clause-opens g c =
    let stopped : c.from_residual.result ≡ Err c.in_err-first.field-0.0 = search rules in
    rw stopped
    (lacks_first g.T.Tells.form (preceded (unread c.args.reader.now) (g.S.Source.left c.args.source.now)) (preceded (unread c.line_of.new.reader) (g.S.Source.left c.line_of.new.source))
    (g.O.Out.puts c.args.out.now) (g.O.Out.puts c.args.out.now) (g.S.Source.faults c.args.source.now) (g.S.Source.faults c.line_of.new.source)
    (g.O.Out.faults c.args.out.now) (g.O.Out.faults c.args.out.now) c.in_err-first.field-0.0 c.in_err-first.ensures.stops refl)

pub returns-in-Some-clause-opens : goal.returns-in-Some-clause-opens
returns-in-Some-clause-opens g c =
    let before = preceded (unread c.args.reader.now) (g.S.Source.left c.args.source.now) in
    let after = preceded (unread c.line_of.new.reader) (g.S.Source.left c.line_of.new.source) in
    let same : c.as_slice.result.now ≡ c.in-Some.first = search rules in
    let some : c.in_ok-first.field-0 ≡ Some c.as_slice.result.now = c.in-Some.is ∙ ap Some (sym same) in
    let reads : ReadsLine (Some c.as_slice.result.now) before after = subst (λ found. ReadsLine found before after) some c.in_ok-first.ensures.line in
    opens_first g.T.Tells.form c.as_slice.result.now before after (g.O.Out.puts c.args.out.now) (g.O.Out.puts c.open.new.out) (g.S.Source.faults c.args.source.now) (g.S.Source.faults c.line_of.new.source)
    (g.O.Out.faults c.args.out.now) (g.O.Out.faults c.open.new.out) c.open.result reads c.open.ensures.opens

pub returns-in-None-clause-opens : goal.returns-in-None-clause-opens
returns-in-None-clause-opens g c =
    let before = preceded (unread c.args.reader.now) (g.S.Source.left c.args.source.now) in
    let after = preceded (unread c.line_of.new.reader) (g.S.Source.left c.line_of.new.source) in
    let reads : ReadsLine None before after = subst (λ found. ReadsLine found before after) c.in-None.is c.in_ok-first.ensures.line in
    without_first g.T.Tells.form before after (g.O.Out.puts c.args.out.now) (g.O.Out.puts c.args.out.now) (g.S.Source.faults c.args.source.now) (g.S.Source.faults c.line_of.new.source)
    (g.O.Out.faults c.args.out.now) (g.O.Out.faults c.args.out.now) reads refl
