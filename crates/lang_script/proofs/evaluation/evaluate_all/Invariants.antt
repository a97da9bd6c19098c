-- The whole comes to what the expressions that are left come to after the values so far.
use Rattle.std.proofs.Common.{◌≡◌, drop}
use Rattle.run_records.specs.Records.{world_of}
use Rattle.author_calls.specs.Calls.{call_of}
use Rattle.rt_language.specs.Expressions.{evaluate_all}
use Rattle.rt_language.specs.Sequence.{go_on}
use Rattle.lang_syntax.specs.Mirror.{arguments_of}
use Rattle.author_programs.specs.Came.{came}
use Rattle.lang_script.specs.Seen.{caller_of}
use Rattle.lang_script.proofs.Expressions.{then_values}
use Rattle.lang_script.proofs.evaluation.evaluate_all.Given as goal

abbrev pub invariant-loop-expression : goal.invariant-loop-expression
invariant-loop-expression g l =
    (came (world_of l.fn.cx.world) (evaluate_all (caller_of l.frame.by) l.frame.held (arguments_of l.expressions)) (call_of l.fn.cx)
    ≡ came (world_of l.fn.cx.world) (go_on (evaluate_all (caller_of l.frame.by) l.frame.held (arguments_of (drop l.expression-index l.expressions))) (then_values l.values)) (call_of l.cx))
    × (l.cx.world ≡ l.fn.cx.world)
