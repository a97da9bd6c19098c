use Rattle.std.proofs.Common.{◌≡◌, ◌∙◌, ℕ, suc, List, drop, slice_index_or, sym, ap}
use Rattle.std.proofs.Math.Seq.{drop-cons}
use Rattle.rt_language.specs.Values.{digits_after}
use Rattle.lang_views.specs.Digits.{at_most}
use Rattle.lang_views.proofs.Digits.{digits-off}
use Rattle.lang_views.proofs.parsing.number_up_to.Goals as goal

-- src/parsing.rt:70:21
pub returns-in-None : goal.returns-in-None
returns-in-None c =
    digits-off c.loop-digit.number (slice_index_or c.args.digits.now c.loop-digit.digit-index 0) c.args.most (drop (suc c.loop-digit.digit-index) c.args.digits.now) (sym c.in-None.is ∙ c.with_digit.ensures)
    ∙ ap (λ (digits : List ℕ). at_most c.args.most (digits_after c.loop-digit.number digits)) (sym (drop-cons c.args.digits.now c.loop-digit.digit-index 0 c.loop-digit-test.true))
    ∙ c.loop-digit.invariant.0
