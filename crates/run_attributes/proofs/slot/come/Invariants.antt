-- What was written so far, and what is left, are what the whole gives.
use Rattle.std.proofs.Common.{◌≡◌, ◌++◌, drop}
use Rattle.run_attributes.specs.Given.{edits_of, all_come}
use Rattle.run_attributes.proofs.slot.come.Given as goal

abbrev pub invariant-loop-attribute : goal.invariant-loop-attribute
invariant-loop-attribute g l =
    edits_of l.edits ++ all_come (drop l.attribute-index l.new) l.old l.number ≡ edits_of l.fn.edits ++ all_come l.new l.old l.number
