-- A removal is its scope's clean-ups, once that is stopped.
use Rattle.std.proofs.Common.{rules, ◌∙◌, ap}
use Rattle.std.specs.Prelude.{[]}
use Rattle.rt_model.specs.Removal.{clean_ups}
use Rattle.run_state.specs.Mirror.{state_of}
use Rattle.rt_scopes.proofs.CleanedUp.{removed_as}
use Rattle.rt_scopes.proofs.Onward.{came_as}
use Rattle.rt_scopes.proofs.scopes.Scopes.remove_leaf.Goals as goal

pub returns : goal.returns
returns g c =
    record {
      removed =
          λ kept.
          let came = c.clean.ensures.cleaned kept in (
            came.0,
            came_as _ _ _ _ _
                (removed_as (g.A.App.meaning c.args.app.now) c.args.patching (state_of kept c.args.self.now.state) (state_of kept c.stopped.new.self) c.args.scope.0 c.as_slice.result.now (c.in_ok-stopped.ensures kept)
                (c.as_slice.ensures.items ∙ c.in_ok-effects.ensures ∙ ap (λ hs. clean_ups hs []) (c.hooks_of.ensures kept)))
                came.1,
            came.2,
          );
    }

pub returns-in_err-stopped : goal.returns-in_err-stopped
returns-in_err-stopped g c =
    record {
      removed = λ kept. (kept, search rules, search rules);
    }

pub returns-in_err-effects : goal.returns-in_err-effects
returns-in_err-effects g c =
    record {
      removed = λ kept. (kept, search rules, search rules);
    }
