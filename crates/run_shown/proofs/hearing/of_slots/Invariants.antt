-- What was heard so far, and what is left, are what the whole gives.
use Rattle.std.proofs.Common.{◌≡◌, ◌++◌, take}
use Rattle.rt_model.specs.Lists.{backwards}
use Rattle.run_shown.specs.Hearing.{listeners_of, slot_given}
use Rattle.run_shown.proofs.hearing.of_slots.Given as goal

abbrev pub invariant-loop-at : goal.invariant-loop-at
invariant-loop-at g l =
    listeners_of l.listeners ++ backwards (λ x. slot_given l.event l.first x) (take l.at l.slots) ≡ listeners_of l.fn.listeners ++ backwards (λ x. slot_given l.event l.first x) l.slots
