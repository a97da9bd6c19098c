-- The scopes of the fallback are dropped, where the boundary is live.
use Rattle.std.proofs.Common.{rules, ◌∙◌, ap, sym}
use Rattle.rt_model.specs.State.{Done, DropFallback, FallbackSide}
use Rattle.rt_model.specs.Boundary.{drop_items}
use Rattle.run_work.specs.Items.{work_of}
use Rattle.run_state.specs.Mirror.{state_of}
use Rattle.rt_scopes.specs.Sides.{fallback_scopes_in}
use Rattle.rt_boundary.proofs.Stepped.{step_dead, step_drops}
use Rattle.rt_boundary.proofs.steps.leave_fallback.Goals as goal

pub returns-then-not-is_live : goal.returns-then-not-is_live
returns-then-not-is_live g c =
    record {
      done =
          λ app count kept. (
            kept,
            step_dead app (state_of kept c.args.scopes.now.state) c.args.boundary DropFallback (sym (c.is_live.ensures kept) ∙ c.if-not-is_live.true)
                ∙ ap (λ work. Done (state_of kept c.args.scopes.now.state) (work_of work)) (sym c.new.ensures.empty),
            λ was. was,
          );
    }

pub returns : goal.returns
returns g c =
    record {
      done =
          λ app count kept. (
            kept,
            step_drops app (state_of kept c.args.scopes.now.state) c.args.boundary (sym (c.is_live.ensures kept) ∙ c.if-not-is_live.false)
                ∙ ap (λ w. Done w (drop_items c.args.boundary FallbackSide (fallback_scopes_in (state_of kept c.args.scopes.now.state) c.args.boundary))) (sym (c.in_ok-children.ensures.dropped kept))
                ∙ ap (λ ts. Done (state_of kept c.drop_fallback.new.state) (drop_items c.args.boundary FallbackSide ts)) (sym (c.as_slice.ensures.items ∙ c.in_ok-children.ensures.scopes kept))
                ∙ ap (λ work. Done (state_of kept c.drop_fallback.new.state) work) (sym c.in_ok-items.ensures),
            λ was. was,
          );
    }

pub returns-in_err-children : goal.returns-in_err-children
returns-in_err-children g c =
    record {
      done = λ app count kept. (kept, search rules, search rules);
    }

pub returns-in_err-items : goal.returns-in_err-items
returns-in_err-items g c =
    record {
      done = λ app count kept. (kept, search rules, search rules);
    }
