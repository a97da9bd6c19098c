-- What is left gives what the whole gives.
use Rattle.std.proofs.Common.{◌≡◌, drop}
use Rattle.run_attributes.specs.Given.{text_among}
use Rattle.run_attributes.proofs.slot.text_under.Given as goal

abbrev pub invariant-loop-other : goal.invariant-loop-other
invariant-loop-other g l = text_among l.attribute (drop l.other-index l.slot) ≡ text_among l.attribute l.slot
