use Rattle.std.proofs.Common.{◌≡◌, drop}
use Rattle.run_places.specs.Indexed.{first_of_nodes}
use Rattle.run_places.specs.Places.{kind_of}
use Rattle.run_places.specs.Trails.{place_on}
use Rattle.run_places.proofs.nodes.first_on.Given as goal

abbrev pub invariant-loop-entry : goal.invariant-loop-entry
invariant-loop-entry l = first_of_nodes l.items (place_on l.trail) (kind_of l.kind) (drop l.entry-index l.run) ≡ first_of_nodes l.items (place_on l.trail) (kind_of l.kind) l.run
