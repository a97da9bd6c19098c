use Rattle.std.proofs.Common.{refl, sym, ap, ◌∙◌, subst}
use Rattle.std.proofs.lemmas.Result.{err_from_is_err_and}
use Rattle.std.specs.Prelude.{Some, not}
use Rattle.author_calls.specs.Answers.{event_of}
use Rattle.rt_model.specs.Replay.{then_looked}
use Rattle.run_state.specs.Mirror.{state_of}
use Rattle.run_shown.specs.Hearing.{listener_in, listeners_of}
use Rattle.rt_scopes.specs.Counts.{Counts}
use Rattle.run_machine.specs.Machines.{machine_of}
use Rattle.run_turns.proofs.Arms.{noted_one}
use Rattle.run_machine.proofs.Hearings.{call_heard, call_cut}
use Rattle.run_machine.proofs.machine.Machine.call.Goals as goal

pub returns-in_err-call_handler-clause-calls : goal.returns-in_err-call_handler-clause-calls
returns-in_err-call_handler-clause-calls g c =
    λ kept left taken all.
    let app = g.A.App.meaning c.args.app.now in
    let m = record (machine_of kept left taken c.args.self.now) { listeners = all; event = Some (event_of c.args.event); bubbles = c.args.bubbles } in
    let came = c.in_err-call_handler.ensures.heard kept in
    let p = err_from_is_err_and c.from_residual-in_err-call_handler.result c.from_residual-in_err-call_handler.ensures.1 in
    rw (p.1, p.2)
    (call_cut app m (listener_in c.args.listener.now) (listeners_of c.args.others) _ _ (λ h. m) (event_of c.args.event) (event_of c.call_handler.new.event) _ c.in_err-call_handler.field-0.0 refl refl came.1
    (noted_one _ _ _ c.in_ok-note.ensures.ok))

pub returns-clause-calls : goal.returns-clause-calls
returns-clause-calls g c =
    λ kept left taken all.
    let app = g.A.App.meaning c.args.app.now in
    let m = record (machine_of kept left taken c.args.self.now) { listeners = all; event = Some (event_of c.args.event); bubbles = c.args.bubbles } in
    let came = c.in_ok-call_handler.ensures.heard kept in
    let h = came.0 in
    let v = state_of h c.call_handler.new.self.state in
    let after = event_of c.call_handler.new.event in
    let n = record m { default_enabled = not after.prevented } in (
      h,
      call_heard app m (listener_in c.args.listener.now) (listeners_of c.args.others) (event_of c.args.event) after v came.1
          ∙ ap (λ ls. then_looked (record m { state = v; event = Some after; default_enabled = not after.prevented; listeners = ls })) (sym (c.further-listeners.ensures app m))
          ∙ c.in_ok-look_where_quiet.ensures h n,
      noted_one _ _ _ c.in_ok-note.ensures.ok,
    )

pub returns-clause-counted : goal.returns-clause-counted
returns-clause-counted g c =
    λ kept left taken all was.
    let app = g.A.App.meaning c.args.app.now in
    let m = record (machine_of kept left taken c.args.self.now) { listeners = all; event = Some (event_of c.args.event); bubbles = c.args.bubbles } in
    let came = c.in_ok-call_handler.ensures.heard kept in
    let h = came.0 in
    let v = state_of h c.call_handler.new.self.state in
    let after = event_of c.call_handler.new.event in
    let n = record m { default_enabled = not after.prevented } in
    subst (λ x. Counts c.call_handler.new.calls (x.state).calls)
    (sym
    (call_heard app m (listener_in c.args.listener.now) (listeners_of c.args.others) (event_of c.args.event) after v came.1
    ∙ ap (λ ls. then_looked (record m { state = v; event = Some after; default_enabled = not after.prevented; listeners = ls })) (sym (c.further-listeners.ensures app m))
    ∙ c.in_ok-look_where_quiet.ensures h n))
    (came.2 was)
