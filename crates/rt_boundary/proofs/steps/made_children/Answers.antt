-- What follows the children of the boundary that was found.
use Rattle.std.proofs.Common.{rules, ◌∙◌, ap, sym}
use Rattle.std.specs.Prelude.{Some, None}
use Rattle.rt_model.specs.State.{Done}
use Rattle.run_work.specs.Items.{work_of}
use Rattle.run_records.specs.Kept.{scope_of}
use Rattle.run_state.specs.Mirror.{state_of}
use Rattle.run_state.proofs.Each.{found-each}
use Rattle.rt_model.specs.State.{MadeChildren}
use Rattle.rt_boundary.specs.Rows.{made_items}
use Rattle.rt_boundary.proofs.Stepped.{step_found, step_gone}
use Rattle.rt_boundary.proofs.steps.made_children.Goals as goal

pub returns-in_default : goal.returns-in_default
returns-in_default g c =
    record {
      done =
          λ app count kept. (
            kept,
            step_gone app (state_of kept c.args.scopes.now.state) c.args.boundary MadeChildren
                (found-each scope_of (c.args.scopes.now.state.rows).table c.args.boundary None c.in_default.ensures)
                ∙ ap (λ work. Done (state_of kept c.args.scopes.now.state) (work_of work)) (sym c.new.ensures.empty),
            λ was. was,
          );
    }

pub returns : goal.returns
returns g c =
    record {
      done =
          λ app count kept. (
            kept,
            step_found app (state_of kept c.args.scopes.now.state) c.args.boundary (scope_of c.in-Some.found.now) MadeChildren
                (found-each scope_of (c.args.scopes.now.state.rows).table c.args.boundary (Some c.in-Some.found.now) c.in-Some.ensures)
                ∙ ap (λ held. Done (state_of kept c.args.scopes.now.state) (made_items c.args.boundary held)) (sym c.is_held-held.ensures)
                ∙ ap (λ work. Done (state_of kept c.args.scopes.now.state) work) (sym c.in_ok-made_items.ensures),
            λ was. was,
          );
    }

pub returns-in_err-made_items : goal.returns-in_err-made_items
returns-in_err-made_items g c =
    record {
      done = λ app count kept. (kept, search rules, search rules);
    }
