-- One more value, and none.
use Rattle.std.proofs.Common.{rules, ◌≡◌, ◌∙◌, arith}
use Rattle.run_records.specs.Records.{world_of}
use Rattle.author_calls.specs.Calls.{call_of}
use Rattle.rt_model.specs.World.{World}
use Rattle.rt_language.specs.Expressions.{SourceTypes, evaluate}
use Rattle.lang_syntax.specs.Mirror.{expression_of}
use Rattle.author_programs.specs.Came.{came, reached}
use Rattle.lang_script.specs.Seen.{caller_of}
use Rattle.lang_script.proofs.Expressions.{values_more, values_end}
use Rattle.lang_script.proofs.evaluation.evaluate_all.Goals as goal

pub loop-expression-preserved : goal.loop-expression-preserved
loop-expression-preserved g c =
    let w : World SourceTypes = world_of c.args.cx.now.world in
    let h : came w (evaluate (caller_of c.args.frame.now.by) c.args.frame.now.held (expression_of c.expression-item.result)) (call_of c.loop-expression.cx) ≡ reached c.in_ok-value.value (call_of c.evaluate.new.cx) = search rules in
    (c.loop-expression.invariant.0 ∙ values_more w _ _ c.args.expressions.now _ _ _ _ c.in_ok-value.value _ _ (omega arith) c.expression-item.is h (search rules), search rules)

pub returns-clause-came : goal.returns-clause-came
returns-clause-came g c = c.loop-expression.invariant.0 ∙ values_end _ _ _ c.args.expressions.now _ _ _ (omega arith)
