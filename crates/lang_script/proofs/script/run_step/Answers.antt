-- Where a task stands after its statements.
use Rattle.std.proofs.Common.{refl, sym, ap, ◌∙◌}
use Rattle.rt_language.specs.Meaning.{stepped}
use Rattle.lang_script.specs.Seen.{frame_of, outcome_of}
use Rattle.lang_script.specs.declared.caller.Outcome.{Outcome}
use Rattle.lang_script.specs.declared.caller.Caller.TheVariants as callers
use Rattle.lang_script.proofs.Meant.{begun-done}
use Rattle.lang_script.proofs.script.run_step.Goals as goal

pub returns-in-WentOn-clause-came : goal.returns-in-WentOn-clause-came
returns-in-WentOn-clause-came c =
    let starts = c.in_ok-frame.ensures in
    begun-done c.args.cx.now c.run_statements.new.cx c.in_ok-frame.frame callers.Other _ _ _ (stepped c.args.state c.args.steps) c.in_ok-run_statements.field-0 (frame_of c.run_statements.new.frame) _
    starts.by (starts.held ∙ c.arguments.ensures) starts.stopped starts.prevented starts.stays refl c.in_ok-run_statements.ensures.came
    (ap (λ (o : Outcome). stepped c.args.state c.args.steps (outcome_of o (frame_of c.run_statements.new.frame))) c.in-WentOn.is ∙ sym c.after.ensures.step)

pub returns-in-Ended-clause-came : goal.returns-in-Ended-clause-came
returns-in-Ended-clause-came c =
    let starts = c.in_ok-frame.ensures in
    begun-done c.args.cx.now c.run_statements.new.cx c.in_ok-frame.frame callers.Other _ _ _ (stepped c.args.state c.args.steps) c.in_ok-run_statements.field-0 (frame_of c.run_statements.new.frame) _
    starts.by (starts.held ∙ c.arguments.ensures) starts.stopped starts.prevented starts.stays refl c.in_ok-run_statements.ensures.came
    (ap (λ (o : Outcome). stepped c.args.state c.args.steps (outcome_of o (frame_of c.run_statements.new.frame))) c.in-Ended.is)

pub returns-in-Refused-clause-came : goal.returns-in-Refused-clause-came
returns-in-Refused-clause-came c =
    let starts = c.in_ok-frame.ensures in
    begun-done c.args.cx.now c.run_statements.new.cx c.in_ok-frame.frame callers.Other _ _ _ (stepped c.args.state c.args.steps) c.in_ok-run_statements.field-0 (frame_of c.run_statements.new.frame) _
    starts.by (starts.held ∙ c.arguments.ensures) starts.stopped starts.prevented starts.stays refl c.in_ok-run_statements.ensures.came
    (ap (λ (o : Outcome). stepped c.args.state c.args.steps (outcome_of o (frame_of c.run_statements.new.frame))) c.in-Refused.is)
