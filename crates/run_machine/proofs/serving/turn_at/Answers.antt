use Rattle.std.proofs.Common.{ap, sym, ◌∙◌}
use Rattle.tree_mirror.specs.Sealed.{component_of}
use Rattle.rt_model.specs.Boundary.{boundary_step}
use Rattle.rt_model.specs.State.{Row, Feed, Make, Drop}
use Rattle.run_places.specs.Places.{kind_of, place_of, side_name_of}
use Rattle.run_state.specs.Mirror.{state_of}
use Rattle.law_moves.specs.Turn.{turn_of, entries_at}
use Rattle.run_work.specs.Items.{item_of, row_step_of, work_of}
use Rattle.run_turns.specs.Counting.{calls_after}
use Rattle.run_turns.specs.Fed.{fed_outcome}
use Rattle.rt_scopes.specs.Knowing.{leaf_of}
use Rattle.run_standing.specs.Feeds.{feeds}
use Rattle.run_turns.proofs.Arms.{came_as, noted_as}
use Rattle.run_machine.proofs.Feeding.{feed_entries, feed_found}
use Rattle.run_turns.proofs.Counting.{change_silent, draw_calls, on_any, on_as, on_comes, on_item}
use Rattle.run_machine.proofs.serving.turn_at.Goals as goal

pub returns-in-Draw-clause-turned : goal.returns-in-Draw-clause-turned
returns-in-Draw-clause-turned g c =
    λ kept.
    let came = c.draw.ensures.drawn kept in
    (came.0, came_as _ _ _ _ _ (ap (λ i. turn_of (g.A.App.meaning c.args.app.now) (state_of kept c.args.scopes.now.state) (item_of i)) c.in-Draw.is) came.1)

pub returns-in-Row-clause-turned : goal.returns-in-Row-clause-turned
returns-in-Row-clause-turned g c =
    λ kept.
    let came = c.boundary_step.ensures.done kept in
    (came.0, came_as _ _ _ _ _ (ap (λ i. turn_of (g.A.App.meaning c.args.app.now) (state_of kept c.args.scopes.now.state) (item_of i)) c.in-Row.is) came.1)

pub returns-in-Feed-clause-turned : goal.returns-in-Feed-clause-turned
returns-in-Feed-clause-turned g c =
    λ kept.
    let app = g.A.App.meaning c.args.app.now in
    let w = state_of kept c.args.scopes.now.state in
    let came = c.feed.ensures.fed kept in (
      came.0,
      came_as _ _ _ _ _
          (ap (λ i. turn_of app w (item_of i)) c.in-Feed.is
          ∙ feed_found app w c.in-Feed.scope (side_name_of c.in-Feed.side) (place_of c.in-Feed.place) (component_of c.in-Feed.component) c.args.fed
          (c.requires.fed kept ∙ ap (λ i. feeds app w (item_of i)) c.in-Feed.is))
          came.1,
    )

pub returns-in-Feed-clause-noted : goal.returns-in-Feed-clause-noted
returns-in-Feed-clause-noted g c =
    λ kept.
    let app = g.A.App.meaning c.args.app.now in
    let w = state_of kept c.args.scopes.now.state in
    noted_as _ _ _ _ _
    (ap (λ i. entries_at app w (item_of i)) c.in-Feed.is
    ∙ feed_entries app w c.in-Feed.scope (side_name_of c.in-Feed.side) (place_of c.in-Feed.place) (component_of c.in-Feed.component) c.args.fed
    (c.requires.fed kept ∙ ap (λ i. feeds app w (item_of i)) c.in-Feed.is))
    c.feed.ensures.noted

pub returns-in-Make-clause-turned : goal.returns-in-Make-clause-turned
returns-in-Make-clause-turned g c =
    λ kept.
    let came = c.make.ensures.made kept in
    (came.0, came_as _ _ _ _ _ (ap (λ i. turn_of (g.A.App.meaning c.args.app.now) (state_of kept c.args.scopes.now.state) (item_of i)) c.in-Make.is) came.1)

pub returns-in-Make-clause-noted : goal.returns-in-Make-clause-noted
returns-in-Make-clause-noted g c =
    λ kept.
    noted_as _ _ _ _ _ (ap (λ i. entries_at (g.A.App.meaning c.args.app.now) (state_of kept c.args.scopes.now.state) (item_of i)) c.in-Make.is) (c.make.ensures.noted kept)

pub take_first-requires : goal.take_first-requires
take_first-requires g c =
    record { leaf = λ kept. c.requires.leaf kept ∙ ap (λ i. leaf_of (state_of kept c.args.scopes.now.state) (item_of i)) c.in-Drop.is }

pub returns-in-Drop-clause-turned : goal.returns-in-Drop-clause-turned
returns-in-Drop-clause-turned g c =
    λ kept.
    let came = c.take_first.ensures.turned kept in
    (came.0, came_as _ _ _ _ _ (ap (λ i. turn_of (g.A.App.meaning c.args.app.now) (state_of kept c.args.scopes.now.state) (item_of i)) c.in-Drop.is) came.1)

pub returns-in-Drop-clause-noted : goal.returns-in-Drop-clause-noted
returns-in-Drop-clause-noted g c =
    λ kept.
    noted_as _ _ _ _ _ (ap (λ i. entries_at (g.A.App.meaning c.args.app.now) (state_of kept c.args.scopes.now.state) (item_of i)) c.in-Drop.is) (c.take_first.ensures.noted kept)

pub returns-in-Draw-clause-counted : goal.returns-in-Draw-clause-counted
returns-in-Draw-clause-counted g c =
    let app = g.A.App.meaning c.args.app.now in
    on_any c.draw.result
    (change_silent (λ w. turn_of app w (item_of c.args.item.now)) c.args.scopes.now.state c.args.calls.now
    (
    λ kept.
    ap (λ i. calls_after (turn_of app (state_of kept c.args.scopes.now.state) (item_of i))) c.in-Draw.is
    ∙ draw_calls (state_of kept c.args.scopes.now.state) c.in-Draw.scope (side_name_of c.in-Draw.side) (place_of c.in-Draw.place) (kind_of c.in-Draw.kind)
    ))

pub returns-in-Row-clause-counted : goal.returns-in-Row-clause-counted
returns-in-Row-clause-counted g c =
    let app = g.A.App.meaning c.args.app.now in
    on_item app (item_of c.args.item.now) (Row c.in-Row.boundary (row_step_of c.in-Row.step)) c.args.scopes.now.state c.args.calls.now c.boundary_step.new.calls c.boundary_step.result
    (ap (λ i. item_of i) (sym c.in-Row.is))
    (on_comes (λ w. boundary_step app w c.in-Row.boundary (row_step_of c.in-Row.step)) c.args.scopes.now.state c.boundary_step.new.scopes.state c.args.calls.now c.boundary_step.new.calls work_of c.boundary_step.result c.boundary_step.ensures.done)

pub returns-in-Feed-clause-counted : goal.returns-in-Feed-clause-counted
returns-in-Feed-clause-counted g c =
    let app = g.A.App.meaning c.args.app.now in
    let fed = Feed c.in-Feed.scope (side_name_of c.in-Feed.side) (place_of c.in-Feed.place) (component_of c.in-Feed.component) in
    on_item app (item_of c.args.item.now) fed c.args.scopes.now.state c.args.calls.now c.feed.new.calls c.feed.result
    (ap (λ i. item_of i) (sym c.in-Feed.is))
    (on_as (λ w. turn_of app w fed) (λ w. fed_outcome app w (component_of c.in-Feed.component) c.args.fed)
    c.args.scopes.now.state c.args.scopes.now.state c.args.calls.now c.feed.new.calls c.feed.result
    (
    λ kept.
    let w = state_of kept c.args.scopes.now.state in
    sym
    (feed_found app w c.in-Feed.scope (side_name_of c.in-Feed.side) (place_of c.in-Feed.place) (component_of c.in-Feed.component) c.args.fed
    (c.requires.fed kept ∙ ap (λ i. feeds app w (item_of i)) c.in-Feed.is))
    )
    c.feed.ensures.counted)

pub returns-in-Make-clause-counted : goal.returns-in-Make-clause-counted
returns-in-Make-clause-counted g c =
    on_item (g.A.App.meaning c.args.app.now) (item_of c.args.item.now) (Make c.in-Make.scope (side_name_of c.in-Make.side) (place_of c.in-Make.place) (component_of c.in-Make.component)) c.args.scopes.now.state c.args.calls.now c.make.new.calls c.make.result
    (ap (λ i. item_of i) (sym c.in-Make.is)) c.make.ensures.counted

pub returns-in-Drop-clause-counted : goal.returns-in-Drop-clause-counted
returns-in-Drop-clause-counted g c =
    on_item (g.A.App.meaning c.args.app.now) (item_of c.args.item.now) (Drop c.in-Drop.child c.in-Drop.scope (side_name_of c.in-Drop.side)) c.args.scopes.now.state c.args.calls.now c.take_first.new.calls c.take_first.result
    (ap (λ i. item_of i) (sym c.in-Drop.is)) c.take_first.ensures.counted
