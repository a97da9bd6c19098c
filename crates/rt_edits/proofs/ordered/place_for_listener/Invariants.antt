-- No item so far is the place.
use Rattle.std.proofs.Common.{◌+◌, ◌≡◌, drop}
use Rattle.rt_edits.specs.Ordered.{text_order, place_for}
use Rattle.rt_edits.proofs.ordered.place_for_listener.Given as goal

abbrev pub invariant-loop-at : goal.invariant-loop-at
invariant-loop-at l = l.at + place_for (text_order l.name) (drop l.at l.listeners) ≡ place_for (text_order l.name) l.listeners
