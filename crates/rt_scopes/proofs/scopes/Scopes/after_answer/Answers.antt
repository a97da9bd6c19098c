-- The answer settles, the hooks are called, and then the output changes.
use Rattle.std.specs.Prelude.{[]}
use Rattle.rt_model.specs.Run.{new_output}
use Rattle.tree_mirror.specs.Sealed.{element_of}
use Rattle.run_work.specs.Items.{work_of}
use Rattle.run_state.specs.Mirror.{state_of}
use Rattle.rt_scopes.proofs.Counted.{counts_then}
use Rattle.rt_scopes.proofs.Onward.{came_on, cut_on}
use Rattle.rt_scopes.proofs.scopes.Scopes.after_answer.Goals as goal

pub returns-in-Ok : goal.returns-in-Ok
returns-in-Ok g c =
    record {
      followed =
          λ kept.
          let done = c.in-Ok.ensures.settled kept in
          let came = c.new_output.ensures.output (g.A.App.meaning c.args.app.now) (g.met.A.App.lawful c.args.app.now).tests_components c.settle_and_hook.new.calls done.0 in (
            came.0,
            came_on _ (λ v. new_output (g.A.App.meaning c.args.app.now) v c.args.scope (element_of c.args.answer)) (state_of done.0 c.settle_and_hook.new.self.state) _ [] work_of _ done.1
                came.1,
            counts_then _ _ _ _ _ _ _ done.2 came.2,
          );
    }

pub returns-in-Err : goal.returns-in-Err
returns-in-Err g c =
    record {
      followed =
          λ kept.
          let cut = c.in-Err.ensures.settled kept in (
            cut.0,
            cut_on _ (λ v. new_output (g.A.App.meaning c.args.app.now) v c.args.scope (element_of c.args.answer)) _ _ cut.1,
            cut.2,
          );
    }
