-- The output, by whether there is a tree.
use Rattle.std.specs.Prelude.{Err, [], if◌then◌else◌}
use Rattle.rt_model.specs.Tree.{placeholder_tree}
use Rattle.rt_model.specs.State.{Done, MainSide}
use Rattle.rt_model.specs.Run.{has_output, new_output, start_agenda}
use Rattle.tree_mirror.specs.Sealed.{element_of}
use Rattle.run_work.specs.Items.{work_of}
use Rattle.rt_scopes.proofs.Told.{comes_as}
use Rattle.rt_scopes.proofs.TreesAnswered.{no_tree}
use Rattle.rt_scopes.proofs.scopes.Scopes.new_output.Goals as goal

pub returns-in-Ok : goal.returns-in-Ok
returns-in-Ok g c =
    record {
      output = rw c.in-Ok.is c.patch.ensures.patched;
    }

pub returns : goal.returns
returns g c =
    record {
      output =
          rw c.in-Err.is
          (λ app tests count.
          comes_as (λ w. if has_output w c.args.scope then Done w [] else start_agenda app w c.args.scope MainSide placeholder_tree)
          (λ w. new_output app w c.args.scope (element_of {P = g.row.A.Denot} (Err c.in-Err.field-0)))
          c.args.self.now.state c.no_output.new.self.state count count work_of c.no_output.result
          (λ w. no_tree g.row.A.Denot _ _ _ _ _ _ _ app w c.args.scope c.in-Err.field-0) (c.no_output.ensures.output app tests count));
    }
