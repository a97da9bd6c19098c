use Rattle.std.proofs.Common.{◌≡◌}
use Rattle.run_records.specs.declared.faults.Counter.TheVariants.{Elements}
use Rattle.run_places.specs.Places.{kind_of, place_of, side_name_of}
use Rattle.run_state.specs.Mirror.{state_of}
use Rattle.run_state.specs.declared.names.Cause.TheVariants.{IdsExhausted}
use Rattle.run_state.proofs.OneMore.{draw_cut, draw_done}
use Rattle.run_state.proofs.state.State.draw_number.Goals as goal

pub returns-in_default-clause-cut : goal.returns-in_default-clause-cut
returns-in_default-clause-cut g c =
    λ what is kept.
    let same : IdsExhausted Elements ≡ what = cc in
    rw (← same) (draw_cut (state_of kept c.args.self.now) c.args.scope (side_name_of c.args.side) (place_of c.args.place.now) (kind_of c.args.kind) c.in_default.ensures.end)

pub returns-clause-done : goal.returns-clause-done
returns-clause-done g c =
    λ kept.
    draw_done (state_of kept c.args.self.now) c.args.scope (side_name_of c.args.side) (place_of c.args.place.now) (kind_of c.args.kind) (state_of kept c.add_number.new.self) c.in-Some.next c.in-Some.ensures.next.0 c.in-Some.ensures.next.1 (c.in_ok-add_number.ensures kept)
