-- None of the nodes so far stands there.
use Rattle.std.proofs.Common.{◌≡◌, drop}
use Rattle.run_places.specs.Indexed.{node_from, node_index}
use Rattle.run_places.specs.Places.{kind_of}
use Rattle.run_places.specs.Trails.{place_on}
use Rattle.run_places.proofs.nodes.first_among.Given as goal

abbrev pub invariant-loop-index : goal.invariant-loop-index
invariant-loop-index l = node_from l.index (drop l.index l.items) (place_on l.trail) (kind_of l.kind) ≡ node_index l.items (place_on l.trail) (kind_of l.kind)
