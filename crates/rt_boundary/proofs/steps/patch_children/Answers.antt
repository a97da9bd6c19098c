-- The tree of the children that were found.
use Rattle.std.proofs.Common.{rules, ◌∙◌, ap, sym}
use Rattle.std.specs.Prelude.{Some, None}
use Rattle.rt_model.specs.State.{Done}
use Rattle.run_work.specs.Items.{work_of}
use Rattle.run_records.specs.Kept.{scope_of}
use Rattle.run_state.specs.Mirror.{state_of}
use Rattle.run_state.proofs.Each.{found-each}
use Rattle.rt_model.specs.State.{ChildrenSide, PatchChildren}
use Rattle.rt_model.specs.Run.{start_agenda}
use Rattle.rt_scopes.proofs.Onward.{came_as}
use Rattle.rt_boundary.proofs.Stepped.{step_found, step_gone}
use Rattle.rt_boundary.proofs.steps.patch_children.Goals as goal

pub returns-in_default : goal.returns-in_default
returns-in_default g c =
    record {
      done =
          λ app tests count kept. (
            kept,
            step_gone app (state_of kept c.args.scopes.now.state) c.args.boundary PatchChildren
                (found-each scope_of (c.args.scopes.now.state.rows).table c.args.boundary None c.in_default.ensures)
                ∙ ap (λ work. Done (state_of kept c.args.scopes.now.state) (work_of work)) (sym c.new.ensures.empty),
            λ was. was,
          );
    }

pub returns : goal.returns
returns g c =
    record {
      done =
          λ app tests count kept.
          let came = c.patch.ensures.patched app tests count kept in
          let w = state_of kept c.args.scopes.now.state in (
            came.0,
            came_as _ _ _ _ _
                (step_found app w c.args.boundary (scope_of c.in-Some.found.now) PatchChildren (found-each scope_of (c.args.scopes.now.state.rows).table c.args.boundary (Some c.in-Some.found.now) c.in-Some.ensures)
                ∙ ap (λ t. start_agenda app w c.args.boundary ChildrenSide t) (sym c.in_ok-tree.ensures))
                came.1,
            came.2,
          );
    }

pub returns-in_err-tree : goal.returns-in_err-tree
returns-in_err-tree g c =
    record {
      done = λ app tests count kept. (kept, search rules, search rules);
    }
