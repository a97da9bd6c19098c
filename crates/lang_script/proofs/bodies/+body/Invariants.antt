-- The whole comes to what the statements that are left come to in the frame so far.
use Rattle.std.proofs.Common.{◌≡◌, drop}
use Rattle.run_records.specs.Records.{world_of}
use Rattle.author_calls.specs.Calls.{call_of}
use Rattle.rt_language.specs.Statements.{run_statements}
use Rattle.lang_syntax.specs.Mirror.{statements_of}
use Rattle.author_programs.specs.Came.{came}
use Rattle.lang_script.specs.Seen.{caller_of, frame_of, Follows}
use Rattle.lang_script.proofs.bodies.+body.Given as goal

abbrev pub invariant-run_body-loop-statement : goal.invariant-run_body-loop-statement
invariant-run_body-loop-statement l =
    (came (world_of l.fn.cx.world) (run_statements (caller_of l.fn.frame.by) (frame_of l.fn.frame) (statements_of l.statements)) (call_of l.fn.cx)
    ≡ came (world_of l.fn.cx.world) (run_statements (caller_of l.fn.frame.by) (frame_of l.frame) (statements_of (drop l.statement-index l.statements))) (call_of l.cx))
    × (l.cx.world ≡ l.fn.cx.world)
    × Follows l.fn.frame l.frame
