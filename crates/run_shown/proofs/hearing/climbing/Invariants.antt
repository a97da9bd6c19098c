-- What was heard so far, and what is left, are what the whole gives.
use Rattle.std.proofs.Common.{◌≡◌, ◌++◌, drop, false}
use Rattle.std.specs.Prelude.{flat_map}
use Rattle.run_shown.specs.Hearing.{listeners_of, slots_heard}
use Rattle.run_shown.proofs.hearing.climbing.Given as goal

abbrev pub invariant-loop-slots : goal.invariant-loop-slots
invariant-loop-slots g l =
    listeners_of l.listeners ++ flat_map (λ x. slots_heard l.event false x) (drop l.slots-index l.above) ≡ listeners_of l.fn.listeners ++ flat_map (λ x. slots_heard l.event false x) l.above
