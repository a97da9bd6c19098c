-- The last node of the whole is that of the items that are left.
use Rattle.std.proofs.Common.{◌≡◌, ◌-◌, take, length}
use Rattle.run_places.specs.Trails.{place_on}
use Rattle.run_shown.specs.Units.{last_among}
use Rattle.run_shown.proofs.inserting.last_before.Given as goal

abbrev pub invariant-loop-back : goal.invariant-loop-back
invariant-loop-back g l =
    last_among l.sides.new.now (place_on l.place) 0 0 l.trees ≡ last_among l.sides.new.now (place_on l.place) 0 0 (take (length l.trees - l.back) l.trees)
