-- What was heard so far, and what is left, are what the whole gives.
use Rattle.std.proofs.Common.{◌≡◌, ◌++◌, take}
use Rattle.rt_model.specs.Lists.{backwards}
use Rattle.run_shown.specs.Hearing.{attribute_heard, listeners_of}
use Rattle.run_shown.proofs.hearing.all_matching.Given as goal

abbrev pub invariant-loop-at : goal.invariant-loop-at
invariant-loop-at g l =
    listeners_of l.listeners ++ backwards (λ x. attribute_heard l.event x) (take l.at l.slot) ≡ listeners_of l.fn.listeners ++ backwards (λ x. attribute_heard l.event x) l.slot
