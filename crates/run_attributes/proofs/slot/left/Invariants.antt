-- What was written so far, and what is left, are what the whole gives.
use Rattle.std.proofs.Common.{◌≡◌, ◌++◌, drop}
use Rattle.run_attributes.specs.Given.{edits_of, all_left}
use Rattle.run_attributes.proofs.slot.left.Given as goal

abbrev pub invariant-loop-attribute : goal.invariant-loop-attribute
invariant-loop-attribute g l =
    edits_of l.edits ++ all_left (drop l.attribute-index l.old) l.new l.number ≡ edits_of l.fn.edits ++ all_left l.old l.new l.number
