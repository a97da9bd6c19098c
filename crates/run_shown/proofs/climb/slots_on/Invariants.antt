-- The slots so far, and those of what is left, are those of the whole.
use Rattle.std.proofs.Common.{◌≡◌, ◌++◌, drop}
use Rattle.run_shown.specs.Climbs.{slots_of, entries_slots}
use Rattle.run_shown.proofs.climb.slots_on.Given as goal

abbrev pub invariant-loop-attribute : goal.invariant-loop-attribute
invariant-loop-attribute g l =
    slots_of l.slots ++ entries_slots l.given (drop l.attribute-index l.attributes) ≡ entries_slots l.given l.attributes
