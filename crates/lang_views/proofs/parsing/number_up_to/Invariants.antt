-- What is read so far, with the digits that are still to come, is what all of them write.
use Rattle.std.proofs.Common.{◌≡◌, ◌≤◌, drop}
use Rattle.rt_language.specs.Values.{digits_after}
use Rattle.lang_views.specs.Digits.{at_most}
use Rattle.lang_views.proofs.parsing.number_up_to.Given as goal

abbrev pub invariant-loop-digit : goal.invariant-loop-digit
invariant-loop-digit l =
    (at_most l.most (digits_after l.number (drop l.digit-index l.digits)) ≡ at_most l.most (digits_after 0 l.digits)) × (l.number ≤ l.most)
