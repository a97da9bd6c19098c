-- The render is counted, and then the hooks are called.
use Rattle.std.specs.Prelude.{[]}
use Rattle.std.proofs.lemmas.Result.{err_from_is_err_and}
use Rattle.rt_model.specs.Run.{after_hooks}
use Rattle.run_state.specs.Mirror.{state_of}
use Rattle.rt_scopes.specs.Outcomes.{no_work}
use Rattle.rt_scopes.proofs.Counted.{counts_then}
use Rattle.rt_scopes.proofs.Onward.{came_on, cut_on}
use Rattle.rt_boundary.proofs.fallbacks.count_and_hook.Goals as goal

pub returns-in_err-count : goal.returns-in_err-count
returns-in_err-count g c =
    record {
      counted =
          λ kept.
          let cut = c.in_err-count.ensures.counted (g.A.App.meaning c.args.app.now) c.args.calls.now kept in
          let p = err_from_is_err_and c.from_residual.result c.from_residual.ensures.1 in
          rw (p.1, p.2) (cut.0, cut_on _ (λ v. after_hooks (g.A.App.meaning c.args.app.now) v c.args.boundary) _ _ cut.1, cut.2);
    }

pub returns : goal.returns
returns g c =
    record {
      counted =
          λ kept.
          let done = c.in_ok-count.ensures.counted (g.A.App.meaning c.args.app.now) c.args.calls.now kept in
          let came = c.call_hooks.ensures.called done.0 in (
            came.0,
            came_on _ (λ v. after_hooks (g.A.App.meaning c.args.app.now) v c.args.boundary) (state_of done.0 c.count.new.scopes.state) _ [] no_work _ done.1
                came.1,
            counts_then _ _ _ _ _ _ _ done.2 came.2,
          );
    }
