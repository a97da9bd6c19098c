use Rattle.std.proofs.Common.{◌∙◌, [], ap, sym, Ok, Err}
use Rattle.std.proofs.lemmas.Result.{err_from_is_err_and}
use Rattle.tree_mirror.specs.Sealed.{component_of}
use Rattle.rt_model.specs.Replay as replay
use Rattle.rt_model.specs.Run.{run}
use Rattle.rt_model.specs.State as model
use Rattle.run_places.specs.Places.{place_of, side_name_of}
use Rattle.run_state.specs.Mirror.{state_of}
use Rattle.run_work.specs.Items.{work_of}
use Rattle.run_turns.specs.Counting.{calls_after}
use Rattle.run_turns.proofs.Counting.{change_silent, on_as, on_comes}
use Rattle.run_turns.proofs.Arms.{came_as, cut_by, made_gone, made_run, made_cut}
use Rattle.run_turns.proofs.agenda.make_below.Goals as goal

pub returns-in_err-child-clause-made : goal.returns-in_err-child-clause-made
returns-in_err-child-clause-made g c =
    λ live kept.
    let p = err_from_is_err_and c.from_residual.result c.from_residual.ensures.1 in
    rw (p.1, p.2) (
      kept,
      cut_by _ _ c.in_err-child.field-0.0
          (λ what is. made_cut (g.A.App.meaning c.args.app.now) (state_of kept c.args.scopes.now.state) _ c.args.scope (side_name_of c.args.side) (place_of c.args.place) (component_of c.args.component) what (live kept) (c.with_new_scope.ensures.cut what (c.in_err-child.was ∙ ap Err is) kept)),
    )

pub returns-in-Some-clause-made : goal.returns-in-Some-clause-made
returns-in-Some-clause-made g c =
    λ live kept.
    let came = c.run.ensures.run kept in (
      came.0,
      came_as _ _ _ _ _
          (made_run (g.A.App.meaning c.args.app.now) (state_of kept c.args.scopes.now.state) c.args.scope (side_name_of c.args.side) (place_of c.args.place) (component_of c.args.component) c.in-Some.child _
          (c.with_new_scope.ensures.made c.in-Some.child (c.in_ok-child.was ∙ ap Ok c.in-Some.is) kept))
          came.1,
    )

pub returns-in-Some-clause-counted : goal.returns-in-Some-clause-counted
returns-in-Some-clause-counted g c =
    let app = g.A.App.meaning c.args.app.now in
    on_as (λ w. replay.made app w c.args.scope (side_name_of c.args.side) (place_of c.args.place) (component_of c.args.component)) (λ w. run app w c.in-Some.child)
    c.args.scopes.now.state c.with_new_scope.new.self c.args.calls.now c.run.new.calls c.run.result
    (
    λ kept.
    sym
    (made_run app (state_of kept c.args.scopes.now.state) c.args.scope (side_name_of c.args.side) (place_of c.args.place) (component_of c.args.component) c.in-Some.child _
    (c.with_new_scope.ensures.made c.in-Some.child (c.in_ok-child.was ∙ ap Ok c.in-Some.is) kept))
    )
    (on_comes (λ w. run app w c.in-Some.child) c.with_new_scope.new.self c.run.new.self.state c.args.calls.now c.run.new.calls work_of c.run.result c.run.ensures.run)

pub returns-in-None-clause-made : goal.returns-in-None-clause-made
returns-in-None-clause-made g c =
    λ live kept.
    let gone = c.with_new_scope.ensures.gone (c.in_ok-child.was ∙ ap Ok c.in-None.is) kept in (
      kept,
      made_gone (g.A.App.meaning c.args.app.now) (state_of kept c.args.scopes.now.state) c.args.scope (side_name_of c.args.side) (place_of c.args.place) (component_of c.args.component) gone.0
          ∙ ap (λ w. model.Done w []) (sym gone.1)
          ∙ ap (λ xs. model.Done (state_of kept c.with_new_scope.new.self) (work_of xs)) (sym c.new.ensures.empty),
    )

pub returns-in-None-clause-counted : goal.returns-in-None-clause-counted
returns-in-None-clause-counted g c =
    let app = g.A.App.meaning c.args.app.now in
    change_silent (λ w. replay.made app w c.args.scope (side_name_of c.args.side) (place_of c.args.place) (component_of c.args.component)) c.args.scopes.now.state c.args.calls.now
    (
    λ kept.
    let gone = c.with_new_scope.ensures.gone (c.in_ok-child.was ∙ ap Ok c.in-None.is) kept in
    ap (λ o. calls_after o) (made_gone (g.A.App.meaning c.args.app.now) (state_of kept c.args.scopes.now.state) c.args.scope (side_name_of c.args.side) (place_of c.args.place) (component_of c.args.component) gone.0)
    )
