-- One that does more than to look decides, and one that looks leaves it to those behind it.
use Rattle.std.proofs.Common.{arith, ◌+◌, Bool, ◌&&◌, ◌≡◌, ◌∙◌, sym, ap, drop}
use Rattle.rt_language.specs.Formulas.{all_look}
use Rattle.lang_syntax.specs.Expressions.{arguments_of}
use Rattle.lang_syntax.proofs.Looking.{all_look_next}
use Rattle.lang_syntax.proofs.glances.+looking.Goals as goal

pub all_look-returns-then-not-looks : goal.all_look-returns-then-not-looks
all_look-returns-then-not-looks t c =
    let rest : Bool = all_look c.args.may (arguments_of (drop (c.loop-expression.expression-index + 1) c.args.expressions.now)) in
    sym
    (c.loop-expression.invariant
    ∙ all_look_next c.args.may c.args.expressions.now c.loop-expression.expression-index c.expression-item.result (omega arith) c.expression-item.is
    ∙ ap (λ (b : Bool). b && rest) (sym c.looks.ensures ∙ c.if-not-looks.true))

pub all_look-loop-expression-preserved : goal.all_look-loop-expression-preserved
all_look-loop-expression-preserved t c =
    let rest : Bool = all_look c.args.may (arguments_of (drop (c.loop-expression.expression-index + 1) c.args.expressions.now)) in
    c.loop-expression.invariant
    ∙ all_look_next c.args.may c.args.expressions.now c.loop-expression.expression-index c.expression-item.result (omega arith) c.expression-item.is
    ∙ ap (λ (b : Bool). b && rest) (sym c.looks.ensures ∙ c.if-not-looks.false)
