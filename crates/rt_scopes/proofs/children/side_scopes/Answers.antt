-- One more spot.
use Rattle.std.proofs.Common.{refl, ap, sym, ◌∙◌, map}
use Rattle.run_places.specs.Places.{spot_of}
use Rattle.run_state.specs.Mirror.{state_of}
use Rattle.rt_scopes.specs.Sides.{child_here, children_at}
use Rattle.rt_scopes.proofs.Spots.{all_done, none_kept, one_more, side_childless, side_is, side_none}
use Rattle.rt_scopes.proofs.children.side_scopes.Goals as goal

pub returns-then-is_empty : goal.returns-then-is_empty
returns-then-is_empty g c = λ kept.
    c.new-scopes.ensures.empty
    ∙ side_childless (state_of kept c.args.state.now) c.args.side.now (sym c.as_slice.ensures.pairs ∙ none_kept c.as_slice.result.now c.is_empty.result c.is_empty.ensures c.if-is_empty.true)

pub returns-in_default : goal.returns-in_default
returns-in_default g c = λ kept. c.new-scopes.ensures.empty ∙ side_none (state_of kept c.args.state.now) c.args.side.now c.in_default.is

pub loop-spot-preserved : goal.loop-spot-preserved
loop-spot-preserved g c = λ kept.
    one_more (λ xs. children_at (state_of kept c.args.state.now) c.args.side.now xs) c.as_slice-spot-items.result.now c.loop-spot.spot-index c.spot-item.result
    c.loop-spot.scopes c.add_child.new.scopes
    (child_here (state_of kept c.args.state.now) c.args.side.now c.spot-item.result)
    (children_at (state_of kept c.args.state.now) c.args.side.now c.as_slice-spot-items.result.now)
    c.loop-spot-test.true c.spot-item.is refl (c.loop-spot.invariant kept) (c.in_ok-add_child.ensures kept)

pub returns : goal.returns
returns g c = λ kept.
    all_done (λ xs. children_at (state_of kept c.args.state.now) c.args.side.now xs) c.as_slice-spot-items.result.now c.loop-spot.spot-index
    c.loop-spot.scopes (children_at (state_of kept c.args.state.now) c.args.side.now c.as_slice-spot-items.result.now)
    c.loop-spot-test.false refl (c.loop-spot.invariant kept)
    ∙ side_is (state_of kept c.args.state.now) c.args.side.now _ c.as_slice-spot-items.result.now c.in-Some.is (ap (map spot_of) c.as_slice-spot-items.ensures.items ∙ c.in_ok-spots.ensures)
