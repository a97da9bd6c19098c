use Rattle.std.proofs.Common.{ap, sym, ◌∙◌}
use Rattle.run_state.specs.Mirror.{state_of}
use Rattle.run_state.specs.Names.{work_of}
use Rattle.run_state.proofs.Changed.{on_ok}
use Rattle.run_answers.specs.Barred.{left_out}
use Rattle.run_answers.proofs.passing.leave_out.Goals as goal

pub returns-in-RerunScope : goal.returns-in-RerunScope
returns-in-RerunScope g c =
    record {
      out = on_ok c.leave_out_scope.result c.leave_out_scope.ensures.out (λ out kept. out kept ∙ ap (λ x. left_out (state_of kept c.args.state.now) (work_of x)) (sym c.in-RerunScope.is));
    }

pub returns-in-PollTask : goal.returns-in-PollTask
returns-in-PollTask g c = record { out = λ kept. c.leave_out_task.ensures kept ∙ ap (λ x. left_out (state_of kept c.args.state.now) (work_of x)) (sym c.in-PollTask.is) }
