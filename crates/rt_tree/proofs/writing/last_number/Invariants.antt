-- The last number so far, and those that are left.
use Rattle.std.proofs.Common.{◌≡◌, drop}
use Rattle.rt_tree.specs.Owns.{last_or}
use Rattle.rt_tree.proofs.writing.last_number.Given as goal

abbrev pub invariant-loop-number : goal.invariant-loop-number
invariant-loop-number l = last_or l.last (drop l.number-index l.numbers) ≡ last_or 0 l.numbers
