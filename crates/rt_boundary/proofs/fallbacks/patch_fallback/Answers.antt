-- The fallback's tree, or one placeholder.
use Rattle.std.proofs.Common.{rules, ap, sym}
use Rattle.rt_model.specs.State.{FallbackSide}
use Rattle.rt_model.specs.Run.{start_agenda}
use Rattle.run_state.specs.Mirror.{state_of}
use Rattle.rt_scopes.proofs.Onward.{came_as}
use Rattle.rt_boundary.proofs.fallbacks.patch_fallback.Goals as goal

pub returns : goal.returns
returns g c =
    record {
      patched =
          λ app tests count kept.
          let came = c.patch.ensures.patched app tests count kept in (
            came.0,
            came_as _ _ _ _ _ (ap (λ t. start_agenda app (state_of kept c.args.scopes.now.state) c.args.boundary FallbackSide t) (sym c.in_ok-tree.ensures)) came.1,
            came.2,
          );
    }

pub returns-in_err-tree : goal.returns-in_err-tree
returns-in_err-tree g c =
    record {
      patched = λ app tests count kept. (kept, search rules, search rules);
    }
