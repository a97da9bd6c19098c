-- One more part, and none.
use Rattle.std.proofs.Common.{rules, ◌≡◌, ◌∙◌, ap, arith, string_bytes}
use Rattle.run_records.specs.Records.{world_of}
use Rattle.author_calls.specs.Calls.{call_of}
use Rattle.rt_model.specs.World.{World}
use Rattle.rt_language.specs.Expressions.{SourceTypes, evaluate}
use Rattle.rt_language.specs.Values.{TextValue}
use Rattle.lang_syntax.specs.Mirror.{expression_of}
use Rattle.author_programs.specs.Came.{came, reached}
use Rattle.lang_script.specs.Seen.{caller_of}
use Rattle.lang_script.proofs.Expressions.{text_more, text_end}
use Rattle.lang_script.proofs.evaluation.+evaluation.Goals as goal

pub joined-loop-part-preserved : goal.joined-loop-part-preserved
joined-loop-part-preserved g t c =
    let w : World SourceTypes = world_of c.args.cx.now.world in
    let h : came w (evaluate (caller_of c.args.frame.now.by) c.args.frame.now.held (expression_of c.part-item.result)) (call_of c.loop-part.cx) ≡ reached c.in_ok-value.value (call_of c.evaluate.new.cx) = search rules in
    (c.loop-part.invariant.0 ∙ text_more w _ _ c.args.parts.now _ _ _ _ c.in_ok-value.value _ _ (omega arith) c.part-item.is h (search rules), search rules)

pub joined-returns-clause-came : goal.joined-returns-clause-came
joined-returns-clause-came g t c =
    let value : TextValue (string_bytes c.loop-part.text) ≡ c.new.result = search rules in
    c.loop-part.invariant.0 ∙ text_end _ _ _ c.args.parts.now _ _ _ (omega arith) ∙ ap (λ v. reached v (call_of c.loop-part.cx)) value
