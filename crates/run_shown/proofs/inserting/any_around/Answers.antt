-- Nothing is around no place, one more item isn't the place, and one that is ends the search.
use Rattle.std.proofs.Common.{ap, ◌∙◌, ◌-◌}
use Rattle.std.specs.Prelude.{not}
use Rattle.run_places.specs.Trails.{place_on}
use Rattle.run_places.proofs.Trails.{on_Item}
use Rattle.run_shown.specs.Ways.{place_found}
use Rattle.run_shown.specs.Units.{around_from}
use Rattle.run_shown.proofs.ItemsWrite.{around_here, around_more, around_unless}
use Rattle.run_shown.proofs.inserting.any_around.Goals as goal

pub loop-position-preserved : goal.loop-position-preserved
loop-position-preserved c =
    around_more (place_on c.args.place.now) _ c.loop-position.position c.args.end (place_found c.args.stop) c.in_ok-around.around
    (around_from (place_on c.args.place.now) c.args.first (place_found c.args.stop) (c.args.end - c.args.first))
    c.loop-position-test.true c.loop-position.invariant c.in_ok-around.ensures (on_Item _ _) c.if-around.false

pub returns-then-is_none : goal.returns-then-is_none
returns-then-is_none c = around_unless c.args.stop (place_on c.args.place.now) c.args.first (c.args.end - c.args.first) (c.is_none.ensures ∙ ap not c.if-is_none.true)

pub returns-then-around : goal.returns-then-around
returns-then-around c =
    around_here (place_on c.args.place.now) _ c.loop-position.position c.args.end (place_found c.args.stop) c.in_ok-around.around
    (around_from (place_on c.args.place.now) c.args.first (place_found c.args.stop) (c.args.end - c.args.first))
    c.loop-position-test.true c.loop-position.invariant c.in_ok-around.ensures (on_Item _ _) c.if-around.true
