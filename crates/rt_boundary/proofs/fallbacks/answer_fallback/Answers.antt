-- What follows the fallback's answer.
use Rattle.std.proofs.Common.{ap, sym}
use Rattle.std.specs.Prelude.{[]}
use Rattle.rt_model.specs.State.{FallbackSide, onward}
use Rattle.rt_model.specs.Run.{after_hooks, start_agenda}
use Rattle.rt_model.specs.Boundary.{counted_render, tree_or_placeholder}
use Rattle.tree_mirror.specs.Sealed.{element_of}
use Rattle.run_work.specs.Items.{work_of}
use Rattle.run_state.specs.Mirror.{state_of}
use Rattle.rt_scopes.proofs.Counted.{counts_then}
use Rattle.rt_scopes.proofs.Onward.{came_as, came_on, cut_as, cut_on}
use Rattle.rt_boundary.proofs.fallbacks.answer_fallback.Goals as goal

pub returns-in-Ok : goal.returns-in-Ok
returns-in-Ok g c =
    record {
      answered =
          λ kept.
          let app = g.A.App.meaning c.args.app.now in
          let done = c.in-Ok.ensures.counted kept in
          let came = c.patch_fallback.ensures.patched app (g.met.A.App.lawful c.args.app.now).tests_components c.count_and_hook.new.calls done.0 in (
            came.0,
            came_as _ _ _ _ _
                (ap (λ b. onward (onward (counted_render app (state_of kept c.args.scopes.now.state) c.args.boundary b) (λ v. after_hooks app v c.args.boundary)) (λ v. start_agenda app v c.args.boundary FallbackSide (tree_or_placeholder (element_of c.args.answer)))) (sym c.counts_render-counts.ensures))
                (came_on _ (λ v. start_agenda app v c.args.boundary FallbackSide (tree_or_placeholder (element_of c.args.answer))) (state_of done.0 c.count_and_hook.new.scopes.state) _ [] work_of _ done.1
                came.1),
            counts_then _ _ _ _ _ _ _ done.2 came.2,
          );
    }

pub returns-in-Err : goal.returns-in-Err
returns-in-Err g c =
    record {
      answered =
          λ kept.
          let app = g.A.App.meaning c.args.app.now in
          let cut = c.in-Err.ensures.counted kept in (
            cut.0,
            cut_as _ _ _ _
                (ap (λ b. onward (onward (counted_render app (state_of kept c.args.scopes.now.state) c.args.boundary b) (λ v. after_hooks app v c.args.boundary)) (λ v. start_agenda app v c.args.boundary FallbackSide (tree_or_placeholder (element_of c.args.answer)))) (sym c.counts_render-counts.ensures))
                (cut_on _ (λ v. start_agenda app v c.args.boundary FallbackSide (tree_or_placeholder (element_of c.args.answer))) _ _ cut.1),
            cut.2,
          );
    }
