-- It is seen as the scope is, side by side.
use Rattle.std.proofs.Common.{ap, refl}
use Rattle.run_places.specs.Places.{side_of}
use Rattle.run_shown.specs.Look.{standing}
use Rattle.run_standing.proofs.Sights.{seen_alike}
use Rattle.run_standing.proofs.standing.standing.Goals as goal

pub returns : goal.returns
returns g c =
    let x = standing c.args.scope.now in
    seen_alike (record x { parent = c.number_of.result; main_side = c.in_ok-main_side.main_side; other_sides = c.in_ok-other_sides.other_sides }) x
    c.number_of.ensures refl refl refl (ap side_of c.in_ok-main_side.ensures)
    c.in_ok-other_sides.ensures.children c.in_ok-other_sides.ensures.fallback
