-- The fallback of the boundary that was found.
use Rattle.std.proofs.Common.{rules, ◌∙◌, ap, sym}
use Rattle.std.specs.Prelude.{Some, None}
use Rattle.rt_model.specs.State.{Done}
use Rattle.run_work.specs.Items.{work_of}
use Rattle.run_records.specs.Kept.{scope_of}
use Rattle.run_state.specs.Mirror.{state_of}
use Rattle.run_state.proofs.Each.{found-each}
use Rattle.tree_mirror.specs.Sealed.{component_of}
use Rattle.rt_model.specs.State.{RunFallback}
use Rattle.rt_model.specs.Run.{call_body}
use Rattle.rt_model.specs.Boundary.{fallback_answered}
use Rattle.rt_scopes.proofs.Onward.{came_as}
use Rattle.rt_boundary.proofs.Stepped.{step_found, step_gone}
use Rattle.rt_boundary.proofs.steps.run_fallback.Goals as goal

pub returns-in_default : goal.returns-in_default
returns-in_default g c =
    record {
      done =
          λ kept. (
            kept,
            step_gone (g.A.App.meaning c.args.app.now) (state_of kept c.args.scopes.now.state) c.args.boundary RunFallback
                (found-each scope_of (c.args.scopes.now.state.rows).table c.args.boundary None c.in_default.ensures)
                ∙ ap (λ work. Done (state_of kept c.args.scopes.now.state) (work_of work)) (sym c.new.ensures.empty),
            λ was. was,
          );
    }

pub returns : goal.returns
returns g c =
    record {
      done =
          λ kept.
          let came = c.call_fallback.ensures.called kept in
          let app = g.A.App.meaning c.args.app.now in
          let w = state_of kept c.args.scopes.now.state in (
            came.0,
            came_as _ _ _ _ _
                (step_found app w c.args.boundary (scope_of c.in-Some.found.now) RunFallback (found-each scope_of (c.args.scopes.now.state.rows).table c.args.boundary (Some c.in-Some.found.now) c.in-Some.ensures)
                ∙ ap (λ k. call_body app w c.args.boundary (component_of k) (λ v answer. fallback_answered app v c.args.boundary (component_of k) answer)) (sym c.in_ok-component.ensures))
                came.1,
            came.2,
          );
    }

pub returns-in_err-component : goal.returns-in_err-component
returns-in_err-component g c =
    record {
      done = λ kept. (kept, search rules, search rules);
    }
