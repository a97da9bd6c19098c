-- What is left gives what the whole gives.
use Rattle.std.proofs.Common.{◌≡◌, drop}
use Rattle.run_attributes.specs.Given.{listener_among}
use Rattle.run_attributes.proofs.slot.listens_under.Given as goal

abbrev pub invariant-loop-other : goal.invariant-loop-other
invariant-loop-other g l = listener_among l.attribute (drop l.other-index l.slot) ≡ listener_among l.attribute l.slot
