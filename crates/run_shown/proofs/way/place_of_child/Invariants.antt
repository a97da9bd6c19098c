-- What is left has the child exactly where the whole has.
use Rattle.std.proofs.Common.{◌≡◌, drop, map}
use Rattle.rt_model.specs.Caused as caused
use Rattle.run_places.specs.Places.{place_of, seated}
use Rattle.run_shown.proofs.way.place_of_child.Given as goal

abbrev pub invariant-loop-pair : goal.invariant-loop-pair
invariant-loop-pair g l =
    caused.place_of_child (seated (map place_of l.side.seats) (drop l.pair-index l.pair-items)) l.scope
    ≡ caused.place_of_child (seated (map place_of l.side.seats) l.side.children) l.scope
