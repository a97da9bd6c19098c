-- None of the items so far is the place or holds it.
use Rattle.std.proofs.Common.{◌≡◌, ◌-◌}
use Rattle.run_places.specs.Trails.{place_on}
use Rattle.run_shown.specs.Ways.{place_found}
use Rattle.run_shown.specs.Units.{around_from}
use Rattle.run_shown.proofs.inserting.any_around.Given as goal

abbrev pub invariant-loop-position : goal.invariant-loop-position
invariant-loop-position l = around_from (place_on l.place) l.position (place_found l.stop) (l.end - l.position) ≡ around_from (place_on l.place) l.first (place_found l.stop) (l.end - l.first)
