-- A task is polled as where it stands has it.
use Rattle.std.proofs.Common.{ap, sym, subst, ◌∙◌}
use Rattle.rt_language.specs.Expressions.{TaskState}
use Rattle.author_bodies.specs.Comes.{ComesIfRemembered}
use Rattle.author_calls.specs.Answers.{step_of}
use Rattle.lang_script.specs.Applications.{programs_of_script}
use Rattle.lang_script.specs.States.{state_of}
use Rattle.lang_script.proofs.script.Script.polled.Goals as goal

pub returns-in_ok-step-in-Stepping-clause-came : goal.returns-in_ok-step-in-Stepping-clause-came
returns-in_ok-step-in-Stepping-clause-came c =
    subst
    (λ (s : TaskState). ComesIfRemembered c.args.cx.now c.step.new.cx ((programs_of_script c.args.self.now).poll s) (step_of c.in_ok-step-in-Stepping.field-0))
    (ap state_of (sym c.in-Stepping.is) ∙ c.into_kind.ensures)
    c.in_ok-step-in-Stepping.ensures.came

pub returns-in_ok-step_memo-in-Minding-clause-came : goal.returns-in_ok-step_memo-in-Minding-clause-came
returns-in_ok-step_memo-in-Minding-clause-came c =
    subst
    (λ (s : TaskState). ComesIfRemembered c.args.cx.now c.step_memo.new.cx ((programs_of_script c.args.self.now).poll s) (step_of c.in_ok-step_memo-in-Minding.field-0))
    (ap state_of (sym c.in-Minding.is) ∙ c.into_kind.ensures)
    c.in_ok-step_memo-in-Minding.ensures.came
