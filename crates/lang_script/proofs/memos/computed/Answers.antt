-- What is computed is the value of its expression.
use Rattle.std.proofs.Common.{ap, ◌∙◌}
use Rattle.run_records.specs.Records.{world_of}
use Rattle.author_calls.specs.Calls.{call_of}
use Rattle.author_programs.specs.Came.{came}
use Rattle.lang_script.proofs.Derivings.{computed_is}
use Rattle.lang_script.proofs.memos.computed.Goals as goal

pub returns-clause-came : goal.returns-clause-came
returns-clause-came c =
    let starts = c.in_ok-frame.ensures in
    ap (λ p. came (world_of c.args.cx.now.world) p (call_of c.args.cx.now))
    (computed_is c.in_ok-frame.frame c.args.formula.now c.computed.result.now starts.by (starts.held ∙ c.held.ensures) c.computed.ensures.expression c.computed.ensures.looks)
    ∙ c.in_ok-value.ensures.came
