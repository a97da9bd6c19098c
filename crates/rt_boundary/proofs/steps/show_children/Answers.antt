-- A side shows, where the boundary is live.
use Rattle.std.proofs.Common.{rules, ◌∙◌, [], ap, sym}
use Rattle.rt_model.specs.State.{Done, ShowChildren}
use Rattle.run_work.specs.Items.{work_of}
use Rattle.run_state.specs.Mirror.{forgets, state_of}
use Rattle.rt_boundary.proofs.Stepped.{step_children, step_dead}
use Rattle.rt_boundary.proofs.steps.show_children.Goals as goal

pub returns-then-not-is_live : goal.returns-then-not-is_live
returns-then-not-is_live g c =
    record {
      done =
          λ app count kept. (
            kept,
            step_dead app (state_of kept c.args.scopes.now.state) c.args.boundary ShowChildren (sym (c.is_live.ensures kept) ∙ c.if-not-is_live.true)
                ∙ ap (λ work. Done (state_of kept c.args.scopes.now.state) (work_of work)) (sym c.new.ensures.empty),
            λ was. was,
          );
    }

pub returns : goal.returns
returns g c =
    record {
      done =
          λ app count kept. (
            (forgets kept c.args.boundary),
            step_children app (state_of kept c.args.scopes.now.state) c.args.boundary (sym (c.is_live.ensures kept) ∙ c.if-not-is_live.false)
                ∙ ap (λ w. Done w []) (sym (c.in_ok-show_children.ensures kept))
                ∙ ap (λ work. Done (state_of (forgets kept c.args.boundary) c.show_children.new.self) (work_of work)) (sym c.new-2.ensures.empty),
            λ was. was,
          );
    }

pub returns-in_err-show_children : goal.returns-in_err-show_children
returns-in_err-show_children g c =
    record {
      done = λ app count kept. (kept, search rules, search rules);
    }
