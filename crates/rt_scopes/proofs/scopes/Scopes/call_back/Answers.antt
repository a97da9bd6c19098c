-- One more callback.
use Rattle.std.proofs.Common.{◌∙◌, refl}
use Rattle.std.proofs.lemmas.Result.{err_from_is_err_and}
use Rattle.run_state.specs.Mirror.{state_of}
use Rattle.rt_scopes.specs.Hooks.{one_called}
use Rattle.rt_scopes.proofs.Acted.{called_in_turn}
use Rattle.rt_scopes.proofs.Counted.{cut_then}
use Rattle.rt_scopes.proofs.Onward.{cut_as}
use Rattle.rt_scopes.proofs.Turns.{next_done, next_cut, all_done}
use Rattle.rt_scopes.proofs.scopes.Scopes.call_back.Goals as goal

pub loop-callback-init : goal.loop-callback-init
loop-callback-init g c = λ kept. (kept, refl, λ was. was)

pub loop-callback-preserved : goal.loop-callback-preserved
loop-callback-preserved g c =
    λ kept.
    let before = c.loop-callback.invariant kept in
    let done = c.in_ok-call_one.ensures.called before.0 in (
      done.0,
      before.1
          ∙ next_done (one_called (g.A.App.meaning c.args.app.now)) (state_of before.0 c.loop-callback.self.state) (state_of done.0 c.call_one.new.self.state)
          c.args.callbacks.now c.loop-callback.callback-index c.callback-item.result c.loop-callback-test.true c.callback-item.is done.1,
      λ was. done.2 (before.2 was),
    )

pub returns-in_err-call_one : goal.returns-in_err-call_one
returns-in_err-call_one g c =
    record {
      called =
          λ kept.
          let before = c.loop-callback.invariant kept in
          let cut = c.in_err-call_one.ensures.called before.0 in
          let whole = called_in_turn (g.A.App.meaning c.args.app.now) (state_of kept c.args.self.now.state) c.args.callbacks.now in
          let p = err_from_is_err_and c.from_residual.result c.from_residual.ensures.1 in
          rw (p.1, p.2) (
            cut.0,
            cut_as _ _ (state_of cut.0 c.call_one.new.self.state) c.in_err-call_one.field-0.0 (whole ∙ before.1)
                (next_cut (one_called (g.A.App.meaning c.args.app.now)) (state_of before.0 c.loop-callback.self.state) (state_of cut.0 c.call_one.new.self.state)
                c.args.callbacks.now c.loop-callback.callback-index c.callback-item.result c.in_err-call_one.field-0.0 c.loop-callback-test.true c.callback-item.is
                cut.1),
            cut_then _ _ _ _ _ _ c.in_err-call_one.field-0.0 before.2 cut.2,
          );
    }

pub returns : goal.returns
returns g c =
    record {
      called =
          λ kept.
          let before = c.loop-callback.invariant kept in
          let whole = called_in_turn (g.A.App.meaning c.args.app.now) (state_of kept c.args.self.now.state) c.args.callbacks.now in (
            before.0,
            whole ∙ before.1
                ∙ all_done (one_called (g.A.App.meaning c.args.app.now)) (state_of before.0 c.loop-callback.self.state) c.args.callbacks.now
                c.loop-callback.callback-index c.loop-callback-test.false,
            before.2,
          );
    }
