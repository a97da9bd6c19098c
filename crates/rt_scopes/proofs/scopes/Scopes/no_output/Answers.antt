-- Whether there was an output.
use Rattle.std.proofs.Common.{rules, ◌∙◌, ap, sym}
use Rattle.std.specs.Prelude.{[], if◌then◌else◌}
use Rattle.rt_model.specs.Tree.{placeholder_tree}
use Rattle.rt_model.specs.State.{Done, MainSide}
use Rattle.rt_model.specs.Run.{start_agenda}
use Rattle.run_work.specs.Items.{work_of}
use Rattle.run_state.specs.Mirror.{state_of}
use Rattle.rt_scopes.proofs.Onward.{came_as}
use Rattle.rt_scopes.proofs.TreesAnswered.{placeholder_is}
use Rattle.rt_scopes.proofs.scopes.Scopes.no_output.Goals as goal

pub returns-then-has_output : goal.returns-then-has_output
returns-then-has_output g c =
    record {
      output =
          λ app tests count kept.
          let w = state_of kept c.args.self.now.state in (
            kept,
            ap (λ b. if b then Done w [] else start_agenda app w c.args.scope MainSide placeholder_tree) (sym (c.has_output.ensures kept) ∙ c.if-has_output.true)
                ∙ ap (λ work. Done w (work_of work)) (sym c.new.ensures.empty),
            λ was. was,
          );
    }

pub returns : goal.returns
returns g c =
    record {
      output =
          λ app tests count kept.
          let w = state_of kept c.args.self.now.state in
          let came = c.patch.ensures.patched app tests count kept in (
            came.0,
            came_as _ _ _ _ _
                (ap (λ b. if b then Done w [] else start_agenda app w c.args.scope MainSide placeholder_tree) (sym (c.has_output.ensures kept) ∙ c.if-has_output.false)
                ∙ ap (λ t. start_agenda app w c.args.scope MainSide t) (sym (placeholder_is c.in_ok-tree.tree c.in_ok-tree.ensures.tree)))
                came.1,
            came.2,
          );
    }

pub returns-in_err-tree : goal.returns-in_err-tree
returns-in_err-tree g c =
    record {
      output = λ app tests count kept. (kept, search rules, search rules);
    }
