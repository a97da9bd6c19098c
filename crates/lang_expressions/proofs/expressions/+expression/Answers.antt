-- Each turn of the loop reads one more value, or refuses it.
use Rattle.std.proofs.Common.{rules, ◌≡◌, Some, None}
use Rattle.serde_json.specs.View.{view}
use Rattle.lang_expressions.specs.Expressions.{expression_of}
use Rattle.lang_expressions.proofs.Steps.{one_read, one_refused, all_read}
use Rattle.lang_expressions.proofs.expressions.+expression.Goals as goal

pub expressions-returns-in_default : goal.expressions-returns-in_default
expressions-returns-in_default t c =
    let refused : None ≡ expression_of c.args.levels c.args.names.now c.args.variables.now (view c.value-item.result) = search rules in
    record { expressions = one_refused _ _ c.loop-value.value-index c.value-item.result _ _ (search rules) (search rules) c.loop-value.invariant refused }

pub expressions-loop-value-preserved : goal.expressions-loop-value-preserved
expressions-loop-value-preserved t c =
    let read : Some c.in-Some.one ≡ expression_of c.args.levels c.args.names.now c.args.variables.now (view c.value-item.result) = search rules in
    let more = one_read _ _ c.loop-value.value-index c.value-item.result _ c.in-Some.one _ (search rules) (search rules) c.loop-value.invariant read in
    search (rules, more)

pub expressions-returns : goal.expressions-returns
expressions-returns t c = record { expressions = all_read _ _ c.loop-value.value-index _ _ (search rules) c.loop-value.invariant }
