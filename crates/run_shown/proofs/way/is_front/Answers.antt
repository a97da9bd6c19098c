-- A place with more steps isn't a front, and one with as many at most is the other one as far as it goes.
use Rattle.std.proofs.Common.{◌<◌, ◌≤◌, length, sym, arith, rules}
use Rattle.std.proofs.lemmas.Grind.{common_steps}
use Rattle.run_places.specs.Trails.{steps_of}
use Rattle.run_shown.proofs.Ways.{front_by, front_long}
use Rattle.run_shown.proofs.way.is_front.Goals as goal

pub returns-then-count-other : goal.returns-then-count-other
returns-then-count-other c =
    let long : length c.args.other.now < length (steps_of c.args.place.now) = omega (arith, c.if-count-other.true, c.requires) in
    sym (front_long (steps_of c.args.place.now) c.args.other.now long)

pub returns : goal.returns
returns c =
    let low : length (steps_of c.args.place.now) ≤ length c.args.other.now = omega (arith, c.if-count-other.false, c.requires) in
    front_by (steps_of c.args.place.now) c.args.other.now _ c.args.count _ c.stands_after.ensures (first_of (search rules, grind (arith, common_steps))) c.requires low
