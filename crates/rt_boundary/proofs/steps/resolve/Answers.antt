-- The callbacks are called, where the boundary is live.
use Rattle.std.proofs.Common.{rules, ◌∙◌, ap, sym}
use Rattle.std.proofs.lemmas.Result.{err_from_is_err_and}
use Rattle.rt_model.specs.State.{Done, Resolve}
use Rattle.rt_model.specs.Boundary.{called_back}
use Rattle.run_work.specs.Items.{work_of}
use Rattle.run_state.specs.Mirror.{state_of}
use Rattle.run_state.specs.Effects.{callbacks_of}
use Rattle.rt_scopes.proofs.Onward.{cut_as}
use Rattle.rt_boundary.proofs.Stepped.{step_dead, step_resolves}
use Rattle.rt_boundary.proofs.steps.resolve.Goals as goal

pub returns-then-not-is_live : goal.returns-then-not-is_live
returns-then-not-is_live g c =
    record {
      done =
          λ kept. (
            kept,
            step_dead (g.A.App.meaning c.args.app.now) (state_of kept c.args.scopes.now.state) c.args.boundary Resolve (sym (c.is_live.ensures kept) ∙ c.if-not-is_live.true)
                ∙ ap (λ work. Done (state_of kept c.args.scopes.now.state) (work_of work)) (sym c.new.ensures.empty),
            λ was. was,
          );
    }

pub returns-in_err-call_back : goal.returns-in_err-call_back
returns-in_err-call_back g c =
    record {
      done =
          λ kept.
          let cut = c.in_err-call_back.ensures.called kept in
          let app = g.A.App.meaning c.args.app.now in
          let whole =
          step_resolves app (state_of kept c.args.scopes.now.state) c.args.boundary (sym (c.is_live.ensures kept) ∙ c.if-not-is_live.false)
          ∙ ap (λ w. called_back app w (callbacks_of (state_of kept c.args.scopes.now.state) c.args.boundary)) (sym (c.in_ok-callbacks.ensures.turned kept))
          ∙ ap (λ es. called_back app (state_of kept c.resolve.new.self) es) (sym (c.as_slice.ensures.items ∙ c.in_ok-callbacks.ensures.callbacks kept)) in
          let p = err_from_is_err_and c.from_residual-in_err-call_back.result c.from_residual-in_err-call_back.ensures.1 in
          rw (p.1, p.2) (cut.0, cut_as _ _ _ _ whole cut.1, cut.2);
    }

pub returns : goal.returns
returns g c =
    record {
      done =
          λ kept.
          let done = c.in_ok-call_back.ensures.called kept in
          let app = g.A.App.meaning c.args.app.now in
          let whole =
          step_resolves app (state_of kept c.args.scopes.now.state) c.args.boundary (sym (c.is_live.ensures kept) ∙ c.if-not-is_live.false)
          ∙ ap (λ w. called_back app w (callbacks_of (state_of kept c.args.scopes.now.state) c.args.boundary)) (sym (c.in_ok-callbacks.ensures.turned kept))
          ∙ ap (λ es. called_back app (state_of kept c.resolve.new.self) es) (sym (c.as_slice.ensures.items ∙ c.in_ok-callbacks.ensures.callbacks kept)) in
          (done.0, whole ∙ done.1 ∙ ap (λ work. Done (state_of done.0 c.call_back.new.self.state) (work_of work)) (sym c.new-2.ensures.empty), done.2);
    }

pub returns-in_err-callbacks : goal.returns-in_err-callbacks
returns-in_err-callbacks g c =
    record {
      done = λ kept. (kept, search rules, search rules);
    }
