-- A boundary's run, by whether it calls the fallback.
use Rattle.std.proofs.Common.{rules, ◌∙◌, map, ap, sym}
use Rattle.rt_model.specs.State.{Done}
use Rattle.run_work.specs.Items.{row_step_of}
use Rattle.run_state.specs.Mirror.{state_of}
use Rattle.rt_scopes.proofs.Onward.{came_as}
use Rattle.rt_scopes.proofs.RunKinds.{run_free, run_held}
use Rattle.rt_scopes.proofs.scopes.Scopes.run_boundary.Goals as goal

pub returns-then-runs_fallback : goal.returns-then-runs_fallback
returns-then-runs_fallback g c =
    record {
      run =
          λ kept. (
            kept,
            run_held (g.A.App.meaning c.args.app.now) (state_of kept c.args.self.now.state) c.args.boundary (map row_step_of c.args.steps.now) c.runs_fallback.result c.runs_fallback.ensures c.if-runs_fallback.true
                ∙ ap (λ work. Done (state_of kept c.args.self.now.state) work) (sym c.in_ok-row_items.ensures),
            λ was. was,
          );
    }

pub returns : goal.returns
returns g c =
    record {
      run =
          λ kept.
          let came = c.hook_and_run.ensures.run kept in (
            came.0,
            came_as _ _ _ _ _
                (run_free (g.A.App.meaning c.args.app.now) (state_of kept c.args.self.now.state) c.args.boundary (map row_step_of c.args.steps.now) c.runs_fallback.result c.runs_fallback.ensures c.if-runs_fallback.false)
                came.1,
            came.2,
          );
    }

pub returns-in_err-row_items : goal.returns-in_err-row_items
returns-in_err-row_items g c =
    record {
      run = λ kept. (kept, search rules, search rules);
    }
