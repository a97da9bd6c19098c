use Rattle.std.proofs.Common.{rules, ◌∙◌, ap, sym}
use Rattle.tree_mirror.specs.Sealed.{component_of}
use Rattle.rt_model.specs.Replay as replay
use Rattle.rt_model.specs.State as model
use Rattle.run_places.specs.Places.{place_of, side_name_of}
use Rattle.run_state.specs.Mirror.{state_of}
use Rattle.run_work.specs.Items.{work_of}
use Rattle.run_turns.specs.Counting.{calls_after}
use Rattle.run_turns.proofs.Counting.{change_silent, on_as}
use Rattle.run_turns.proofs.Arms.{came_as, copied, made_dead, noted_any, noted_one}
use Rattle.run_turns.proofs.agenda.make.Goals as goal

pub returns-then-is_live-clause-made : goal.returns-then-is_live-clause-made
returns-then-is_live-clause-made g c =
    λ kept.
    let app = g.A.App.meaning c.args.app.now in
    let came = c.make_below.ensures.made (λ h. sym (c.is_live.ensures h) ∙ c.if-is_live.true) kept in (
      came.0,
      came_as _ _ _ _ _
          (ap (λ x. replay.made app (state_of kept c.args.scopes.now.state) c.args.scope (side_name_of c.args.side) (place_of x) (component_of c.args.component.now)) (sym (copied _ _ _ c.copy.ensures.copy c.in_ok-place.ensures.left))
          ∙ ap (λ x. replay.made app (state_of kept c.args.scopes.now.state) c.args.scope (side_name_of c.args.side) (place_of c.in_ok-place.place) (component_of x)) (sym (copied _ _ _ c.copy-2.ensures c.in_ok-place.ensures.right)))
          came.1,
    )

pub returns-else-is_live-clause-made : goal.returns-else-is_live-clause-made
returns-else-is_live-clause-made g c =
    λ kept. (
      kept,
      made_dead (g.A.App.meaning c.args.app.now) (state_of kept c.args.scopes.now.state) c.args.scope (side_name_of c.args.side) (place_of c.args.place.now) (component_of c.args.component.now)
          (sym (c.is_live.ensures kept) ∙ c.if-is_live.false)
          ∙ ap (λ xs. model.Done (state_of kept c.args.scopes.now.state) (work_of xs)) (sym c.new.ensures.empty),
    )

pub returns-then-is_live-clause-noted : goal.returns-then-is_live-clause-noted
returns-then-is_live-clause-noted g c = λ kept. noted_any c.args.course.now.entries c.note.new.self.entries _ c.make_below.result (noted_one _ _ _ c.in_ok-note.ensures.ok)

pub returns-in_err-note-clause-made : goal.returns-in_err-note-clause-made
returns-in_err-note-clause-made g c = λ kept. (kept, search rules)

pub returns-in_err-place-clause-made : goal.returns-in_err-place-clause-made
returns-in_err-place-clause-made g c = λ kept. (kept, search rules)

pub returns-then-is_live-clause-counted : goal.returns-then-is_live-clause-counted
returns-then-is_live-clause-counted g c =
    let app = g.A.App.meaning c.args.app.now in
    on_as (λ w. replay.made app w c.args.scope (side_name_of c.args.side) (place_of c.args.place.now) (component_of c.args.component.now)) (λ w. replay.made app w c.args.scope (side_name_of c.args.side) (place_of c.in_ok-place.place) (component_of c.in_ok-place.component))
    c.args.scopes.now.state c.args.scopes.now.state c.args.calls.now c.make_below.new.calls c.make_below.result
    (
    λ kept.
    let w = state_of kept c.args.scopes.now.state in
    sym
    (ap (λ x. replay.made app w c.args.scope (side_name_of c.args.side) (place_of x) (component_of c.args.component.now)) (sym (copied _ _ _ c.copy.ensures.copy c.in_ok-place.ensures.left))
    ∙ ap (λ x. replay.made app w c.args.scope (side_name_of c.args.side) (place_of c.in_ok-place.place) (component_of x)) (sym (copied _ _ _ c.copy-2.ensures c.in_ok-place.ensures.right)))
    )
    c.make_below.ensures.counted

pub returns-else-is_live-clause-counted : goal.returns-else-is_live-clause-counted
returns-else-is_live-clause-counted g c =
    let app = g.A.App.meaning c.args.app.now in
    change_silent (λ w. replay.made app w c.args.scope (side_name_of c.args.side) (place_of c.args.place.now) (component_of c.args.component.now)) c.args.scopes.now.state c.args.calls.now
    (
    λ kept.
    ap (λ o. calls_after o)
    (made_dead app (state_of kept c.args.scopes.now.state) c.args.scope (side_name_of c.args.side) (place_of c.args.place.now) (component_of c.args.component.now)
    (sym (c.is_live.ensures kept) ∙ c.if-is_live.false))
    )
