-- The whole comes to what the parts that are left come to after the text so far.
use Rattle.std.proofs.Common.{◌≡◌, drop, string_bytes}
use Rattle.run_records.specs.Records.{world_of}
use Rattle.author_calls.specs.Calls.{call_of}
use Rattle.rt_language.specs.Expressions.{evaluate, evaluate_all}
use Rattle.rt_language.specs.Sequence.{go_on}
use Rattle.rt_language.specs.Syntax.{Cat}
use Rattle.lang_syntax.specs.Mirror.{arguments_of}
use Rattle.author_programs.specs.Came.{came}
use Rattle.lang_script.specs.Seen.{caller_of}
use Rattle.lang_script.proofs.Expressions.{then_text}
use Rattle.lang_script.proofs.evaluation.+evaluation.Given as goal

abbrev pub invariant-joined-loop-part : goal.invariant-joined-loop-part
invariant-joined-loop-part g l =
    (came (world_of l.fn.cx.world) (evaluate (caller_of l.frame.by) l.frame.held (Cat (arguments_of l.parts))) (call_of l.fn.cx)
    ≡ came (world_of l.fn.cx.world) (go_on (evaluate_all (caller_of l.frame.by) l.frame.held (arguments_of (drop l.part-index l.parts))) (then_text (string_bytes l.text))) (call_of l.cx))
    × (l.cx.world ≡ l.fn.cx.world)
