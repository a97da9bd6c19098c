-- An action that no event calls.
use Rattle.std.proofs.Common.{ℕ, map, ap, refl, ◌∙◌}
use Rattle.rt_model.specs.Lists.{nth, or_else}
use Rattle.rt_language.specs.Syntax.{NoStatements}
use Rattle.lang_syntax.specs.Mirror.{statements_of}
use Rattle.rt_model.specs.World.{nothing}
use Rattle.lang_script.specs.Seen.{frame_of}
use Rattle.lang_script.specs.declared.caller.Caller.TheVariants as callers
use Rattle.lang_script.proofs.Meant.{begun-done}
use Rattle.lang_script.proofs.script.Script.act.Goals as goal

pub returns-clause-came : goal.returns-clause-came
returns-clause-came c =
    let starts = c.in_ok-frame.ensures in
    begun-done c.args.cx.now c.run_statements.new.cx c.in_ok-frame.frame callers.Other _ _ _ (λ _. nothing) c.in_ok-_outcome._outcome (frame_of c.run_statements.new.frame) nothing
    starts.by (starts.held ∙ c.arguments.ensures) starts.stopped starts.prevented starts.stays (c.statements.ensures.statements ∙ ap (λ (n : ℕ). or_else NoStatements (nth (map statements_of c.args.self.now.actions) n)) c.action.ensures) c.in_ok-_outcome.ensures.came refl
