-- A child leaves what is drawn for the sides, and no other child comes with it.
use Rattle.run_places.specs.Places.{side_of}
use Rattle.rt_model.specs.State.{MainSide, ChildrenSide, FallbackSide}
use Rattle.run_records.specs.Kept.{scope_of}
use Rattle.run_state.specs.Mounts.{seatless}
use Rattle.run_state.proofs.OneMore.{seat_stays}
use Rattle.run_state.proofs.Seats.{seat_one, seat_stood}
use Rattle.run_state.proofs.joining.push_child.Goals as goal

pub returns-in-Main-clause-stay : goal.returns-in-Main-clause-stay
returns-in-Main-clause-stay g c =
    let rest = c.args.scope.now.rest in
    let same = seat_stays c.seat.result rest.main_side c.seat.new.self _ c.seat.ensures.seated c.seat.ensures.err in
    λ i. ((same i, (side_of rest.children_side).numbers, (side_of rest.fallback_side).numbers), rest.height, seatless c.args.scope.now, rest.reads, rest.effects, rest.holders)

pub returns-in-Children-clause-stay : goal.returns-in-Children-clause-stay
returns-in-Children-clause-stay g c =
    let rest = c.args.scope.now.rest in
    let same = seat_stays c.seat-in-Children.result rest.children_side c.seat-in-Children.new.self _ c.seat-in-Children.ensures.seated c.seat-in-Children.ensures.err in
    λ i. (((side_of rest.main_side).numbers, same i, (side_of rest.fallback_side).numbers), rest.height, seatless c.args.scope.now, rest.reads, rest.effects, rest.holders)

pub returns-in-Fallback-clause-stay : goal.returns-in-Fallback-clause-stay
returns-in-Fallback-clause-stay g c =
    let rest = c.args.scope.now.rest in
    let same = seat_stays c.seat-in-Fallback.result rest.fallback_side c.seat-in-Fallback.new.self _ c.seat-in-Fallback.ensures.seated c.seat-in-Fallback.ensures.err in
    λ i. (((side_of rest.main_side).numbers, (side_of rest.children_side).numbers, same i), rest.height, seatless c.args.scope.now, rest.reads, rest.effects, rest.holders)

pub returns-in-Main-clause-one : goal.returns-in-Main-clause-one
returns-in-Main-clause-one g c =
    let rest = c.args.scope.now.rest in
    record {
      stood = λ t other child.
          seat_stood (scope_of c.args.scope.now) MainSide (side_of c.seat.new.self) t
          (λ q. seat_one c.seat.result rest.main_side c.seat.new.self _ c.args.child t c.seat.ensures.seated c.seat.ensures.err other q) child;
    }

pub returns-in-Children-clause-one : goal.returns-in-Children-clause-one
returns-in-Children-clause-one g c =
    let rest = c.args.scope.now.rest in
    record {
      stood = λ t other child.
          seat_stood (scope_of c.args.scope.now) ChildrenSide (side_of c.seat-in-Children.new.self) t
          (λ q. seat_one c.seat-in-Children.result rest.children_side c.seat-in-Children.new.self _ c.args.child t c.seat-in-Children.ensures.seated c.seat-in-Children.ensures.err other q) child;
    }

pub returns-in-Fallback-clause-one : goal.returns-in-Fallback-clause-one
returns-in-Fallback-clause-one g c =
    let rest = c.args.scope.now.rest in
    record {
      stood = λ t other child.
          seat_stood (scope_of c.args.scope.now) FallbackSide (side_of c.seat-in-Fallback.new.self) t
          (λ q. seat_one c.seat-in-Fallback.result rest.fallback_side c.seat-in-Fallback.new.self _ c.args.child t c.seat-in-Fallback.ensures.seated c.seat-in-Fallback.ensures.err other q) child;
    }
