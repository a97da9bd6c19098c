-- The climb in both looks, where nothing is kept of the scope above.
use Rattle.std.proofs.Common.{◌∙◌, sym}
use Rattle.run_shown.proofs.BothLooks.{both_further, both_gone, both_none, both_other, both_top, not_some}
use Rattle.run_shown.proofs.look.Look.+is_shown_both.Goals as goal

pub returns-in_default : goal.returns-in_default
returns-in_default g t c = both_none c.args.self.now c.args.other.now c.args.steps c.args.below c.args.parent c.in_default.is

pub returns-in_default-rung : goal.returns-in_default-rung
returns-in_default-rung g t c =
    both_gone c.args.self.now c.args.other.now c.args.steps c.args.below c.args.parent c.in-Some.above c.in-Some.is c.in_default-rung.ensures

pub returns-then-not-is_side : goal.returns-then-not-is_side
returns-then-not-is_side g t c =
    both_other c.args.self.now c.args.other.now c.args.steps c.args.below c.args.parent c.in-Some.above c.in-Some.is c.in-Some-rung.rung c.in-Some-rung.ensures
    (sym c.is_side.ensures ∙ c.if-not-is_side.true)

pub returns-then-steps-eq0 : goal.returns-then-steps-eq0
returns-then-steps-eq0 g t c =
    both_top c.args.self.now c.args.other.now c.args.steps c.args.below c.args.parent c.in-Some.above c.in-Some.is c.in-Some-rung.rung c.in-Some-rung.ensures
    c.requires.alike (not_some _ (sym c.is_kept.ensures ∙ c.if-is_kept.false))
    (sym c.is_side.ensures ∙ c.if-not-is_side.false) c.if-steps-eq0.true

pub returns : goal.returns
returns g t c =
    c.is_shown_both.ensures
    ∙ both_further c.args.self.now c.args.other.now c.args.steps c.args.below c.args.parent c.in-Some.above c.in-Some.is c.in-Some-rung.rung c.in-Some-rung.ensures
    c.requires.alike (not_some _ (sym c.is_kept.ensures ∙ c.if-is_kept.false))
    (sym c.is_side.ensures ∙ c.if-not-is_side.false) c.if-steps-eq0.false
