-- What is left has a slot where the whole has one.
use Rattle.std.proofs.Common.{◌≡◌, drop}
use Rattle.run_attributes.specs.Given.{slot_among}
use Rattle.run_attributes.proofs.given.has_slot.Given as goal

abbrev pub invariant-loop-entry : goal.invariant-loop-entry
invariant-loop-entry l = slot_among (drop l.entry-index l.entries) ≡ slot_among l.entries
