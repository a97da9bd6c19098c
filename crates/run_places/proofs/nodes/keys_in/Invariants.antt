use Rattle.std.proofs.Common.{◌≡◌, ◌++◌, drop, map}
use Rattle.run_places.specs.PlaceKeys.{node_key}
use Rattle.run_places.proofs.nodes.keys_in.Given as goal

abbrev pub invariant-loop-item : goal.invariant-loop-item
invariant-loop-item l = l.keys.items ++ map node_key (drop l.item-index l.items) ≡ map node_key l.items
