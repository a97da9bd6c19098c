-- A run, after the hooks that come before it.
use Rattle.std.proofs.Common.{ap, sym}
use Rattle.std.specs.Prelude.{[]}
use Rattle.std.proofs.lemmas.Result.{err_from_is_err_and}
use Rattle.rt_model.specs.World.{before_render_kind}
use Rattle.rt_model.specs.State.{hooks_of, onward}
use Rattle.rt_model.specs.Run.{after_answer, call_body, hooks_called}
use Rattle.tree_mirror.specs.Sealed.{component_of}
use Rattle.run_work.specs.Items.{work_of}
use Rattle.run_state.specs.Mirror.{state_of}
use Rattle.rt_scopes.proofs.Counted.{counts_then}
use Rattle.rt_scopes.proofs.Onward.{came_as, came_on, cut_as, cut_on}
use Rattle.rt_scopes.proofs.scopes.Scopes.run_component.Goals as goal

pub returns-in_err-call_hooks : goal.returns-in_err-call_hooks
returns-in_err-call_hooks g c =
    record {
      run =
          λ kept.
          let app = g.A.App.meaning c.args.app.now in
          let cut = c.in_err-call_hooks.ensures.called kept in
          let p = err_from_is_err_and c.from_residual.result c.from_residual.ensures.1 in
          rw (p.1, p.2) (
            cut.0,
            cut_as _ _ _ _
                (ap (λ u. onward (hooks_called app before_render_kind u c.args.scope (hooks_of u c.args.scope)) (λ v. call_body app v c.args.scope (component_of c.args.component.now) (λ u answer. after_answer app u c.args.scope answer))) (sym (c.unmark.ensures kept)))
                (cut_on _ (λ v. call_body app v c.args.scope (component_of c.args.component.now) (λ u answer. after_answer app u c.args.scope answer)) _ _ cut.1),
            cut.2,
          );
    }

pub returns : goal.returns
returns g c =
    record {
      run =
          λ kept.
          let app = g.A.App.meaning c.args.app.now in
          let done = c.in_ok-call_hooks.ensures.called kept in
          let came = c.run_body.ensures.run done.0 in (
            came.0,
            came_as _ _ _ _ _
                (ap (λ u. onward (hooks_called app before_render_kind u c.args.scope (hooks_of u c.args.scope)) (λ v. call_body app v c.args.scope (component_of c.args.component.now) (λ u answer. after_answer app u c.args.scope answer))) (sym (c.unmark.ensures kept)))
                (came_on _ (λ v. call_body app v c.args.scope (component_of c.args.component.now) (λ u answer. after_answer app u c.args.scope answer)) (state_of done.0 c.call_hooks.new.self.state) _ [] work_of _ done.1
                came.1),
            counts_then _ _ _ _ _ _ _ done.2 came.2,
          );
    }
