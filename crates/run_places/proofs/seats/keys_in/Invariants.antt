use Rattle.std.proofs.Common.{◌≡◌, ◌++◌, drop, map}
use Rattle.run_places.specs.PlaceKeys.{seat_key}
use Rattle.run_places.proofs.seats.keys_in.Given as goal

abbrev pub invariant-loop-item : goal.invariant-loop-item
invariant-loop-item l = l.keys.items ++ map seat_key (drop l.item-index l.items) ≡ map seat_key l.items
