-- What was heard so far, and what is left, are what the whole gives.
use Rattle.std.proofs.Common.{◌≡◌, ◌++◌, drop}
use Rattle.std.specs.Prelude.{flat_map}
use Rattle.run_shown.specs.Hearing.{first_listening, listeners_of}
use Rattle.run_shown.proofs.hearing.in_order.Given as goal

abbrev pub invariant-loop-slot : goal.invariant-loop-slot
invariant-loop-slot g l =
    listeners_of l.listeners ++ flat_map (λ x. first_listening l.event x) (drop l.slot-index l.slots) ≡ listeners_of l.fn.listeners ++ flat_map (λ x. first_listening l.event x) l.slots
