-- A line that ends, the last one, or what was read of one so far.
use Rattle.std.proofs.Common.{rules, ◌≡◌, ◌∙◌, true, false, Some, Err, sym, ap, subst, arith}
use Rattle.show_lines.specs.Held.{MovesOn, SkipsNewline, unread}
use Rattle.show_lines.specs.Lines.{FirstIsLonger, ReadsLine}
use Rattle.show_lines.proofs.Reading.{HasLine, IsFront, all_taken, front_longer, line_ends, line_over, line_taken, more_read, none_read}
use Rattle.show_streams.specs.Reads.{preceded}
use Rattle.show_streams.specs.declared.reading.ReadError.TheVariants as errors
use Rattle.show_streams.specs.declared.reading.TheConstants.{MOST_BYTES}
use Rattle.show_lines.proofs.reader.LineReader.next_line.Goals as goal

pub read_more-requires : goal.read_more-requires
read_more-requires g c =
    let skips : SkipsNewline false c.take_up.new.self c.skip_newline.new.self = subst (λ b. SkipsNewline b c.take_up.new.self c.skip_newline.new.self) c.if-skip_newline.false c.skip_newline.ensures.skips in
    let front : IsFront c.loop.self c.skip_newline.new.self = all_taken c.loop.self c.take_up.new.self c.skip_newline.new.self c.in_ok-take_up.ensures.moves skips in
    record { moved = front.1 }

pub loop-preserved : goal.loop-preserved
loop-preserved g c =
    let before = g.S.Source.left c.loop.source in
    let after = g.S.Source.left c.read_more.new.source in
    let skips : SkipsNewline false c.take_up.new.self c.skip_newline.new.self = subst (λ b. SkipsNewline b c.take_up.new.self c.skip_newline.new.self) c.if-skip_newline.false c.skip_newline.ensures.skips in
    let front : IsFront c.loop.self c.skip_newline.new.self = all_taken c.loop.self c.take_up.new.self c.skip_newline.new.self c.in_ok-take_up.ensures.moves skips in
    let on : MovesOn true c.skip_newline.new.self c.read_more.new.self before after =
    subst (λ more. MovesOn more c.skip_newline.new.self c.read_more.new.self before after) c.if-not-more.false c.in_ok-more.ensures.moves in
    record {
      held = more_read c.loop.self c.skip_newline.new.self c.read_more.new.self before after front on ∙ c.loop.invariant.held;
      later =
          let was = c.loop.invariant.later in
          let now = c.in_ok-more.ensures.later in
          omega (arith, was, now);
    }

pub returns-then-is_too_long-clause-too_long : goal.returns-then-is_too_long-clause-too_long
returns-then-is_too_long-clause-too_long g c = λ is.
    subst (λ all. FirstIsLonger MOST_BYTES all) c.loop.invariant.held
    (front_longer MOST_BYTES c.loop.self c.take_up.new.self (g.S.Source.left c.loop.source) c.in_ok-take_up.ensures.moves c.is_too_long.ensures.plain
    (c.is_too_long.ensures.longer.0 c.if-is_too_long.true))

pub returns-then-skip_newline-clause-line : goal.returns-then-skip_newline-clause-line
returns-then-skip_newline-clause-line g c =
    let skips : SkipsNewline true c.take_up.new.self c.skip_newline.new.self = subst (λ b. SkipsNewline b c.take_up.new.self c.skip_newline.new.self) c.if-skip_newline.true c.skip_newline.ensures.skips in
    let has : HasLine c.loop.self c.skip_newline.new.self = line_taken c.loop.self c.take_up.new.self c.skip_newline.new.self c.in_ok-take_up.ensures.moves skips in
    subst (λ before. ReadsLine (Some c.take_line.result) before (preceded (unread c.take_line.new.self) (g.S.Source.left c.loop.source))) c.loop.invariant.held
    (line_ends c.loop.self c.skip_newline.new.self c.take_line.new.self c.take_line.result (g.S.Source.left c.loop.source) has
    c.take_line.ensures.line c.take_line.ensures.plain c.take_line.ensures.none c.take_line.ensures.rest)

pub returns-in_err-more-clause-failed : goal.returns-in_err-more-clause-failed
returns-in_err-more-clause-failed g c = λ is.
    let stopped : c.from_residual-in_err-more.result ≡ Err c.in_err-more.field-0.0 = search rules in
    let before = g.S.Source.left c.loop.source in
    let after = g.S.Source.left c.read_more.new.source in
    let skips : SkipsNewline false c.take_up.new.self c.skip_newline.new.self = subst (λ b. SkipsNewline b c.take_up.new.self c.skip_newline.new.self) c.if-skip_newline.false c.skip_newline.ensures.skips in
    let front : IsFront c.loop.self c.skip_newline.new.self = all_taken c.loop.self c.take_up.new.self c.skip_newline.new.self c.in_ok-take_up.ensures.moves skips in
    let same : c.in_err-more.field-0.0 ≡ errors.Failed = cc (sym stopped ∙ is) in
    let still = c.in_err-more.ensures.failed (ap Err same) in
    none_read c.loop.self c.skip_newline.new.self c.read_more.new.self before after front still.0 still.1 ∙ c.loop.invariant.held

pub returns-then-not-more-clause-line : goal.returns-then-not-more-clause-line
returns-then-not-more-clause-line g c =
    let before = g.S.Source.left c.loop.source in
    let after = g.S.Source.left c.read_more.new.source in
    let skips : SkipsNewline false c.take_up.new.self c.skip_newline.new.self = subst (λ b. SkipsNewline b c.take_up.new.self c.skip_newline.new.self) c.if-skip_newline.false c.skip_newline.ensures.skips in
    let front : IsFront c.loop.self c.skip_newline.new.self = all_taken c.loop.self c.take_up.new.self c.skip_newline.new.self c.in_ok-take_up.ensures.moves skips in
    let on : MovesOn false c.skip_newline.new.self c.read_more.new.self before after =
    subst (λ more. MovesOn more c.skip_newline.new.self c.read_more.new.self before after) c.if-not-more.true c.in_ok-more.ensures.moves in
    subst (λ all. ReadsLine c.take_last.result all (preceded (unread c.take_last.new.self) after)) c.loop.invariant.held
    (line_over c.loop.self c.skip_newline.new.self c.read_more.new.self c.take_last.new.self c.take_last.result before after front on c.take_last.ensures.last)
