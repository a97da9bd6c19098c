use Rattle.std.proofs.Common.{ap, sym, ◌∙◌}
use Rattle.std.specs.Prelude.{option_map}
use Rattle.run_state.specs.Mirror.{at_first, state_of}
use Rattle.run_state.specs.Names.{work_of}
use Rattle.run_answers.proofs.Passes.{tasks_less, tasks_on, tasks_over}
use Rattle.run_answers.proofs.passing.pass_tasks.Goals as goal

pub loop-work-smaller : goal.loop-work-smaller
loop-work-smaller g c =
    tasks_less (state_of at_first c.loop-work.state) (state_of at_first c.leave_out.new.state) (work_of c.in-Some.work)
    (sym (ap (λ o. option_map work_of o) c.in-Some.is) ∙ c.barred_task.ensures at_first) (c.in_ok-leave_out.ensures.out at_first)

pub loop-work-preserved : goal.loop-work-preserved
loop-work-preserved g c =
    λ kept.
    tasks_on (state_of kept c.loop-work.state) (state_of kept c.leave_out.new.state) (work_of c.in-Some.work)
    (sym (ap (λ o. option_map work_of o) c.in-Some.is) ∙ c.barred_task.ensures kept) (c.in_ok-leave_out.ensures.out kept)
    ∙ c.loop-work.invariant kept

pub returns : goal.returns
returns g c =
    record {
      passed = λ kept.
          tasks_over (state_of kept c.loop-work.state) (sym (ap (λ o. option_map work_of o) c.in_default.is) ∙ c.barred_task.ensures kept)
          ∙ c.loop-work.invariant kept;
    }
