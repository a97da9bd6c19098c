-- The child at a place of the side.
use Rattle.std.proofs.Common.{◌∙◌}
use Rattle.std.specs.Prelude.{Some, None}
use Rattle.run_places.specs.Places.{place_of, side_name_of}
use Rattle.run_records.specs.Kept.{scope_of}
use Rattle.run_state.specs.Mirror.{state_of}
use Rattle.run_state.proofs.Each.{found-each}
use Rattle.rt_scopes.proofs.Spots.{fed_found, none_fed}
use Rattle.rt_scopes.proofs.children.fed_child.Goals as goal

pub returns-in-Some : goal.returns-in-Some
returns-in-Some g c = λ kept.
    c.child_at.ensures
    ∙ fed_found (state_of kept c.args.state.now) c.args.scope (side_name_of c.args.side) (place_of c.args.place.now) (scope_of c.in-Some.found.now) c.side_of.result.now
    (found-each scope_of (c.args.state.now.rows).table c.args.scope (Some c.in-Some.found.now) c.in-Some.ensures) c.side_of.ensures

pub returns-in-None : goal.returns-in-None
returns-in-None g c = λ kept.
    none_fed (state_of kept c.args.state.now) c.args.scope (side_name_of c.args.side) (place_of c.args.place.now) (found-each scope_of (c.args.state.now.rows).table c.args.scope None c.in-None.ensures)
