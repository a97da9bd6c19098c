use Rattle.std.proofs.Common.{rules, ◌∙◌, [], ap, sym}
use Rattle.std.specs.Prelude.{Some}
use Rattle.tree_mirror.specs.Sealed.{component_of}
use Rattle.rt_model.specs.Replay as replay
use Rattle.rt_model.specs.Run.{run}
use Rattle.rt_model.specs.State as model
use Rattle.run_state.specs.Mirror.{state_of}
use Rattle.run_turns.specs.Counting.{calls_after}
use Rattle.run_turns.specs.Fed.{fed_outcome}
use Rattle.run_turns.proofs.Counting.{change_silent, on_any, on_as, props_calls}
use Rattle.run_turns.proofs.Arms.{came_as, handed_kept, handed_fed, entry_kept, entry_fed, noted_as, noted_any, noted_one}
use Rattle.run_turns.proofs.agenda.hand.Goals as goal

pub returns-in_ok-note-clause-handed : goal.returns-in_ok-note-clause-handed
returns-in_ok-note-clause-handed g c =
    λ kept.
    let app = g.A.App.meaning c.args.app.now in
    let w = state_of kept c.args.scopes.now.state in
    let came = c.put.ensures.done app kept in (
      came.0,
      came_as _ _ _ _ _
          (handed_kept app w c.args.child (component_of c.args.component.now) c.args.kept c.if-kept.true
          ∙ ap (λ x. model.Done (replay.with_props app w c.args.child (component_of x)) []) (sym c.in_ok-component.ensures))
          came.1,
    )

pub returns-in_ok-note-clause-noted : goal.returns-in_ok-note-clause-noted
returns-in_ok-note-clause-noted g c =
    noted_as c.args.course.now.entries c.note.new.self.entries _ _ c.put.result
    (entry_kept c.args.child c.args.kept c.if-kept.true)
    (noted_any c.args.course.now.entries c.note.new.self.entries _ c.put.result (noted_one _ _ _ c.in_ok-note.ensures.ok))

pub returns-in_ok-note-2-clause-handed : goal.returns-in_ok-note-2-clause-handed
returns-in_ok-note-2-clause-handed g c =
    λ kept.
    let app = g.A.App.meaning c.args.app.now in
    let w = state_of kept c.args.scopes.now.state in
    let came = c.put_and_run.ensures.done kept in (
      came.0,
      came_as _ _ _ _ _
          (handed_fed app w c.args.child (component_of c.args.component.now) c.args.kept c.if-kept.false
          ∙ ap (λ x. run app (replay.with_props app w c.args.child (component_of x)) c.args.child) (sym c.in_ok-component.ensures))
          came.1,
    )

pub returns-in_ok-note-2-clause-noted : goal.returns-in_ok-note-2-clause-noted
returns-in_ok-note-2-clause-noted g c =
    noted_as c.args.course.now.entries c.note-else-kept.new.self.entries _ _ c.put_and_run.result
    (entry_fed c.args.child c.args.kept c.if-kept.false)
    (noted_any c.args.course.now.entries c.note-else-kept.new.self.entries _ c.put_and_run.result (noted_one _ _ _ c.in_ok-note-2.ensures.ok))

pub returns-in_err-component-clause-handed : goal.returns-in_err-component-clause-handed
returns-in_err-component-clause-handed g c = λ kept. (kept, search rules)

pub returns-in_err-note-clause-handed : goal.returns-in_err-note-clause-handed
returns-in_err-note-clause-handed g c = λ kept. (kept, search rules)

pub returns-in_err-note-2-clause-handed : goal.returns-in_err-note-2-clause-handed
returns-in_err-note-2-clause-handed g c = λ kept. (kept, search rules)

pub returns-in_ok-note-clause-counted : goal.returns-in_ok-note-clause-counted
returns-in_ok-note-clause-counted g c =
    let app = g.A.App.meaning c.args.app.now in
    on_any c.put.result
    (change_silent (λ w. fed_outcome app w (component_of c.args.component.now) (Some (c.args.child, c.args.kept))) c.args.scopes.now.state c.args.calls.now
    (
    λ kept.
    let w = state_of kept c.args.scopes.now.state in
    ap (λ o. calls_after o) (handed_kept app w c.args.child (component_of c.args.component.now) c.args.kept c.if-kept.true)
    ∙ props_calls app w c.args.child (component_of c.args.component.now)
    ))

pub returns-in_ok-note-2-clause-counted : goal.returns-in_ok-note-2-clause-counted
returns-in_ok-note-2-clause-counted g c =
    let app = g.A.App.meaning c.args.app.now in
    on_as (λ w. fed_outcome app w (component_of c.args.component.now) (Some (c.args.child, c.args.kept))) (λ w. run app (replay.with_props app w c.args.child (component_of c.in_ok-component.component)) c.args.child)
    c.args.scopes.now.state c.args.scopes.now.state c.args.calls.now c.put_and_run.new.calls c.put_and_run.result
    (
    λ kept.
    let w = state_of kept c.args.scopes.now.state in
    sym
    (handed_fed app w c.args.child (component_of c.args.component.now) c.args.kept c.if-kept.false
    ∙ ap (λ x. run app (replay.with_props app w c.args.child (component_of x)) c.args.child) (sym c.in_ok-component.ensures))
    )
    c.put_and_run.ensures.counted
