-- A run, by what was found of the scope.
use Rattle.std.proofs.Common.{rules, ◌∙◌, map, ap, refl, sym}
use Rattle.std.specs.Prelude.{Some, None, option_map}
use Rattle.rt_model.specs.State.{Done, is_held}
use Rattle.rt_model.specs.Tree.{is_suspense_boundary}
use Rattle.rt_model.specs.Run.{row_of}
use Rattle.tree_mirror.specs.Sealed.{component_of}
use Rattle.run_places.specs.Places.{side_name_of}
use Rattle.run_work.specs.Items.{row_step_of, work_of}
use Rattle.run_records.specs.Kept.{scope_of}
use Rattle.run_state.specs.Mirror.{state_of}
use Rattle.run_state.proofs.Each.{found-each}
use Rattle.rt_scopes.proofs.Onward.{came_as}
use Rattle.rt_scopes.proofs.RunKinds.{run_found, run_gone, run_other, run_suspense}
use Rattle.rt_scopes.proofs.scopes.Scopes.run.Goals as goal

pub returns-in_default : goal.returns-in_default
returns-in_default g c =
    record {
      run =
          λ kept. (
            kept,
            run_gone (g.A.App.meaning c.args.app.now) (state_of kept c.args.self.now.state) c.args.scope.0 (found-each scope_of (c.args.self.now.state.rows).table c.args.scope.0 None c.in_default.ensures)
                ∙ ap (λ work. Done (state_of kept c.args.self.now.state) (work_of work)) (sym c.new.ensures.empty),
            λ was. was,
          );
    }

pub returns-then-is_suspense_boundary : goal.returns-then-is_suspense_boundary
returns-then-is_suspense_boundary g c =
    record {
      run =
          λ kept.
          let app = g.A.App.meaning c.args.app.now in
          let w = state_of kept c.args.self.now.state in
          let component = component_of c.in-Some.found.now.rest.component in
          let came = c.run_steps.ensures.run kept in (
            came.0,
            came_as _ _ _ _ _
                (run_found app w c.args.scope.0 (scope_of c.in-Some.found.now) component (map row_step_of c.row_of-steps.result.now)
                (found-each scope_of (c.args.self.now.state.rows).table c.args.scope.0 (Some c.in-Some.found.now) c.in-Some.ensures)
                refl
                (c.row_of-steps.ensures ∙ ap (λ held. row_of (option_map side_name_of c.in-Some.found.now.rest.shows) held) c.is_held.ensures)
                ∙ run_suspense app w c.args.scope.0 component (map row_step_of c.row_of-steps.result.now) c.is_suspense_boundary.result c.is_suspense_boundary.ensures c.if-is_suspense_boundary.true)
                came.1,
            came.2,
          );
    }

pub returns : goal.returns
returns g c =
    record {
      run =
          λ kept.
          let app = g.A.App.meaning c.args.app.now in
          let w = state_of kept c.args.self.now.state in
          let x = scope_of c.in-Some.found.now in
          let came = c.run_component.ensures.run kept in (
            came.0,
            came_as _ _ _ _ _
                (run_found app w c.args.scope.0 x (component_of c.in_ok-component.component) (row_of x.shows (is_held x))
                (found-each scope_of (c.args.self.now.state.rows).table c.args.scope.0 (Some c.in-Some.found.now) c.in-Some.ensures)
                (ap component_of (sym c.in_ok-component.ensures))
                refl
                ∙ run_other app w c.args.scope.0 (component_of c.in_ok-component.component) (row_of x.shows (is_held x)) c.is_suspense_boundary.result
                (c.is_suspense_boundary.ensures ∙ ap (λ k. is_suspense_boundary (component_of k)) (sym c.in_ok-component.ensures)) c.if-is_suspense_boundary.false)
                came.1,
            came.2,
          );
    }

pub returns-in_err-component : goal.returns-in_err-component
returns-in_err-component g c =
    record {
      run = λ kept. (kept, search rules, search rules);
    }
