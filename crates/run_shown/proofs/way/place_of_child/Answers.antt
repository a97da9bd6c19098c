-- One child more that isn't the scope, or is it.
use Rattle.std.proofs.Common.{ap, map, ◌∙◌}
use Rattle.std.specs.Prelude.{Some}
use Rattle.rt_model.specs.Caused as caused
use Rattle.run_places.specs.Places.{place_of, seated}
use Rattle.run_shown.proofs.Children.{child_found, child_passes, none_left}
use Rattle.run_shown.proofs.way.place_of_child.Goals as goal

pub loop-pair-init : goal.loop-pair-init
loop-pair-init g c = ap (λ es. caused.place_of_child (seated (map place_of c.args.side.now.seats) es) c.args.scope) c.as_slice-pair-items.ensures.pairs

pub loop-pair-preserved : goal.loop-pair-preserved
loop-pair-preserved g c =
    let seats = map place_of c.args.side.now.seats in
    child_passes seats c.args.scope c.as_slice-pair-items.result.now c.loop-pair.pair-index (0, 0) c.loop-pair-test.true
    (caused.place_of_child (seated seats c.args.side.now.children) c.args.scope) c.loop-pair.invariant c.in_default.ensures

pub returns-in-Some : goal.returns-in-Some
returns-in-Some g c =
    let seats = map place_of c.args.side.now.seats in
    ap (λ p. Some (place_of p)) c.in_ok-copy.ensures.copy
    ∙ child_found seats c.args.scope c.as_slice-pair-items.result.now c.loop-pair.pair-index (0, 0) c.loop-pair-test.true
    (caused.place_of_child (seated seats c.args.side.now.children) c.args.scope) c.loop-pair.invariant (place_of c.in-Some.place.now) c.in-Some.ensures

pub returns : goal.returns
returns g c =
    let seats = map place_of c.args.side.now.seats in
    none_left seats c.args.scope c.as_slice-pair-items.result.now c.loop-pair.pair-index
    (caused.place_of_child (seated seats c.args.side.now.children) c.args.scope) c.loop-pair-test.false c.loop-pair.invariant
