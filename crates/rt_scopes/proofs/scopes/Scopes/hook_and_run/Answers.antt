-- The hooks are called, and then the steps are open.
use Rattle.std.proofs.Common.{rules, ◌∙◌, map, ap, sym}
use Rattle.std.proofs.lemmas.Result.{err_from_is_err_and}
use Rattle.rt_model.specs.State.{Done}
use Rattle.rt_model.specs.Run.{row_items}
use Rattle.run_work.specs.Items.{row_step_of}
use Rattle.run_state.specs.Mirror.{state_of}
use Rattle.rt_scopes.proofs.Onward.{cut_on, done_on}
use Rattle.rt_scopes.proofs.scopes.Scopes.hook_and_run.Goals as goal

pub returns-in_err-call_hooks : goal.returns-in_err-call_hooks
returns-in_err-call_hooks g c =
    record {
      run =
          λ kept.
          let cut = c.in_err-call_hooks.ensures.called kept in
          let p = err_from_is_err_and c.from_residual.result c.from_residual.ensures.1 in
          rw (p.1, p.2) (cut.0, cut_on _ (λ v. Done v (row_items c.args.boundary (map row_step_of c.args.steps.now))) _ _ cut.1, cut.2);
    }

pub returns : goal.returns
returns g c =
    record {
      run =
          λ kept.
          let done = c.in_ok-call_hooks.ensures.called kept in (
            done.0,
            done_on _ (λ v. Done v (row_items c.args.boundary (map row_step_of c.args.steps.now))) (state_of done.0 c.call_hooks.new.self.state) done.1
                ∙ ap (λ work. Done (state_of done.0 c.call_hooks.new.self.state) work) (sym c.in_ok-row_items.ensures),
            done.2,
          );
    }

pub returns-in_err-row_items : goal.returns-in_err-row_items
returns-in_err-row_items g c =
    record {
      run = λ kept. (kept, search rules, search rules);
    }
