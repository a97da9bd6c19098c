-- A climb ends where the side doesn't show, and at the top.
use Rattle.std.proofs.Common.{◌∙◌, ap, sym}
use Rattle.run_shown.specs.Look.{shown_on}
use Rattle.run_shown.proofs.Looks.{on_further, on_gone, on_none, on_other, on_top}
use Rattle.run_shown.proofs.look.Look.+is_shown_on.Goals as goal

pub returns-then-not-is_side : goal.returns-then-not-is_side
returns-then-not-is_side g t c =
    sym (ap (λ p. shown_on c.args.self.now c.args.steps c.args.below p) c.in-Some.is
    ∙ on_other c.args.self.now c.args.steps c.args.below c.in-Some.parent c.in-Some-rung.rung c.in-Some-rung.ensures (sym c.is_side.ensures ∙ c.if-not-is_side.true))

pub returns-then-steps-eq0 : goal.returns-then-steps-eq0
returns-then-steps-eq0 g t c =
    sym (ap (λ p. shown_on c.args.self.now c.args.steps c.args.below p) c.in-Some.is
    ∙ on_top c.args.self.now c.args.steps c.args.below c.in-Some.parent c.in-Some-rung.rung c.in-Some-rung.ensures (sym c.is_side.ensures ∙ c.if-not-is_side.false) c.if-steps-eq0.true)

pub returns : goal.returns
returns g t c =
    c.is_shown_on.ensures
    ∙ sym (ap (λ p. shown_on c.args.self.now c.args.steps c.args.below p) c.in-Some.is
    ∙ on_further c.args.self.now c.args.steps c.args.below c.in-Some.parent c.in-Some-rung.rung c.in-Some-rung.ensures (sym c.is_side.ensures ∙ c.if-not-is_side.false) c.if-steps-eq0.false)

pub returns-in_default-rung : goal.returns-in_default-rung
returns-in_default-rung g t c =
    sym (ap (λ p. shown_on c.args.self.now c.args.steps c.args.below p) c.in-Some.is
    ∙ on_gone c.args.self.now c.args.steps c.args.below c.in-Some.parent c.in_default-rung.ensures)

pub returns-in_default : goal.returns-in_default
returns-in_default g t c =
    sym (ap (λ p. shown_on c.args.self.now c.args.steps c.args.below p) c.in_default.is ∙ on_none c.args.self.now c.args.steps c.args.below)
