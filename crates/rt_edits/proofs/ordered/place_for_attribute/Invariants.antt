-- No item so far is the place.
use Rattle.std.proofs.Common.{◌+◌, ◌≡◌, drop}
use Rattle.rt_edits.specs.Ordered.{attribute_order, place_for}
use Rattle.rt_edits.proofs.ordered.place_for_attribute.Given as goal

abbrev pub invariant-loop-at : goal.invariant-loop-at
invariant-loop-at l = l.at + place_for (attribute_order l.attr.name l.attr.namespace) (drop l.at l.attrs) ≡ place_for (attribute_order l.attr.name l.attr.namespace) l.attrs
