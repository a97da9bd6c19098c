-- The number so far, with the digits that are still to come, is the whole number.
use Rattle.std.proofs.Common.{◌≡◌, ◌≤◌, drop}
use Rattle.show_words.specs.Words as asked
use Rattle.show_words.proofs.words.with_digits.Given as goal

abbrev pub invariant-loop-digit : goal.invariant-loop-digit
invariant-loop-digit l = record {
  rest : asked.with_digits l.most l.number (drop l.digit-index l.digits) ≡ asked.with_digits l.most 0 l.digits;
  within : l.number ≤ l.most;
}
