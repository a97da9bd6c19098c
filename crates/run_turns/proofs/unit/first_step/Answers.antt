use Rattle.std.proofs.Common.{◌∙◌, [], ap, sym}
use Rattle.std.proofs.lemmas.Result.{err_from_is_err_and}
use Rattle.rt_model.specs.Next.{PollTask, RunEffects}
use Rattle.rt_model.specs.Replay.{polled, effects_run}
use Rattle.rt_model.specs.Run.{run}
use Rattle.rt_model.specs.State.{Done}
use Rattle.run_state.specs.Mirror.{state_of}
use Rattle.run_state.specs.Names.{work_of as model_work}
use Rattle.law_moves.specs.Turn.{unit_of}
use Rattle.run_work.specs.Items.{work_of}
use Rattle.run_turns.proofs.Arms.{came_as, cut_as}
use Rattle.run_turns.proofs.Counting.{on_as, on_comes, on_done, on_unit}
use Rattle.run_turns.proofs.unit.first_step.Goals as goal

pub returns-in_err-poll_and_look-in-PollTask-clause-done : goal.returns-in_err-poll_and_look-in-PollTask-clause-done
returns-in_err-poll_and_look-in-PollTask-clause-done g c =
    λ kept.
    let cut = c.in_err-poll_and_look-in-PollTask.ensures.polled kept in
    let p = err_from_is_err_and c.from_residual.result c.from_residual.ensures.1 in
    rw (p.1, p.2) (cut.0, cut_as _ _ _ _ (ap (λ x. unit_of (g.A.App.meaning c.args.app.now) (state_of kept c.args.scopes.now.state) (model_work x)) c.in-PollTask.is) cut.1)

pub returns-in_err-effects_and_look-in-RunEffects-clause-done : goal.returns-in_err-effects_and_look-in-RunEffects-clause-done
returns-in_err-effects_and_look-in-RunEffects-clause-done g c =
    λ kept.
    let cut = c.in_err-effects_and_look-in-RunEffects.ensures.run kept in
    let p = err_from_is_err_and c.from_residual-in_err-effects_and_look-in-RunEffects.result c.from_residual-in_err-effects_and_look-in-RunEffects.ensures.1 in
    rw (p.1, p.2) (cut.0, cut_as _ _ _ _ (ap (λ x. unit_of (g.A.App.meaning c.args.app.now) (state_of kept c.args.scopes.now.state) (model_work x)) c.in-RunEffects.is) cut.1)

pub returns-in-RerunScope-clause-done : goal.returns-in-RerunScope-clause-done
returns-in-RerunScope-clause-done g c =
    λ kept.
    let came = c.run.ensures.run kept in
    (came.0, came_as _ _ _ _ _ (ap (λ x. unit_of (g.A.App.meaning c.args.app.now) (state_of kept c.args.scopes.now.state) (model_work x)) c.in-RerunScope.is) came.1)

pub returns-in-RerunScope-clause-counted : goal.returns-in-RerunScope-clause-counted
returns-in-RerunScope-clause-counted g c =
    let app = g.A.App.meaning c.args.app.now in
    on_as (λ w. unit_of app w (model_work c.args.work)) (λ w. run app w c.in-RerunScope.scope) c.args.scopes.now.state c.args.scopes.now.state c.args.calls.now c.run.new.calls c.run.result
    (λ kept. ap (λ x. unit_of app (state_of kept c.args.scopes.now.state) (model_work x)) (sym c.in-RerunScope.is))
    (on_comes (λ w. run app w c.in-RerunScope.scope) c.args.scopes.now.state c.run.new.self.state c.args.calls.now c.run.new.calls work_of c.run.result c.run.ensures.run)

pub returns-in_ok-poll_and_look-in-PollTask-clause-done : goal.returns-in_ok-poll_and_look-in-PollTask-clause-done
returns-in_ok-poll_and_look-in-PollTask-clause-done g c =
    λ kept.
    let came = c.in_ok-poll_and_look-in-PollTask.ensures.polled kept in (
      came.0,
      ap (λ x. unit_of (g.A.App.meaning c.args.app.now) (state_of kept c.args.scopes.now.state) (model_work x)) c.in-PollTask.is
          ∙ came.1
          ∙ ap (λ xs. Done (state_of came.0 c.poll_and_look.new.scopes.state) (work_of xs)) (sym c.new.ensures.empty),
    )

pub returns-in_ok-poll_and_look-in-PollTask-clause-counted : goal.returns-in_ok-poll_and_look-in-PollTask-clause-counted
returns-in_ok-poll_and_look-in-PollTask-clause-counted g c =
    let app = g.A.App.meaning c.args.app.now in
    on_unit app (model_work c.args.work) (PollTask c.in-PollTask.task) c.args.scopes.now.state c.args.calls.now c.poll_and_look.new.calls (ap (λ x. model_work x) (sym c.in-PollTask.is))
    (on_done (λ w. polled app w c.in-PollTask.task) c.args.scopes.now.state c.poll_and_look.new.scopes.state c.args.calls.now c.poll_and_look.new.calls [] c.in_ok-poll_and_look-in-PollTask.ensures.polled)

pub returns-in_ok-effects_and_look-in-RunEffects-clause-done : goal.returns-in_ok-effects_and_look-in-RunEffects-clause-done
returns-in_ok-effects_and_look-in-RunEffects-clause-done g c =
    λ kept.
    let came = c.in_ok-effects_and_look-in-RunEffects.ensures.run kept in (
      came.0,
      ap (λ x. unit_of (g.A.App.meaning c.args.app.now) (state_of kept c.args.scopes.now.state) (model_work x)) c.in-RunEffects.is
          ∙ came.1
          ∙ ap (λ xs. Done (state_of came.0 c.effects_and_look.new.scopes.state) (work_of xs)) (sym c.new-in-RunEffects.ensures.empty),
    )

pub returns-in_ok-effects_and_look-in-RunEffects-clause-counted : goal.returns-in_ok-effects_and_look-in-RunEffects-clause-counted
returns-in_ok-effects_and_look-in-RunEffects-clause-counted g c =
    let app = g.A.App.meaning c.args.app.now in
    on_unit app (model_work c.args.work) (RunEffects c.in-RunEffects.scope) c.args.scopes.now.state c.args.calls.now c.effects_and_look.new.calls (ap (λ x. model_work x) (sym c.in-RunEffects.is))
    (on_done (λ w. effects_run app w c.in-RunEffects.scope) c.args.scopes.now.state c.effects_and_look.new.scopes.state c.args.calls.now c.effects_and_look.new.calls [] c.in_ok-effects_and_look-in-RunEffects.ensures.run)
