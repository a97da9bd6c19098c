-- The hooks are their effects in turn.
use Rattle.std.proofs.Common.{rules, ◌∙◌, ap}
use Rattle.run_state.specs.Mirror.{state_of}
use Rattle.rt_scopes.proofs.Acted.{hooks_in_turn}
use Rattle.rt_scopes.proofs.Onward.{came_as}
use Rattle.rt_scopes.specs.Hooks.{effects_in, render_kind}
use Rattle.rt_scopes.proofs.scopes.Scopes.call_hooks.Goals as goal

pub returns : goal.returns
returns g c =
    record {
      called =
          λ kept.
          let came = c.act_all.ensures.acted kept in
          let whole =
          hooks_in_turn (g.A.App.meaning c.args.app.now) (render_kind c.args.after) (state_of kept c.args.self.now.state) c.args.scope.0 c.hooks_of.result.now
          c.as_slice.result.now (c.hooks_of.ensures kept) (c.as_slice.ensures.items ∙ c.in_ok-effects.ensures ∙ ap (λ kind. effects_in kind c.hooks_of.result.now) c.kind_of.ensures) in
          (came.0, came_as _ _ _ _ _ whole came.1, came.2);
    }

pub returns-in_err-effects : goal.returns-in_err-effects
returns-in_err-effects g c =
    record {
      called = λ kept. (kept, search rules, search rules);
    }
