-- One value alone.
use Rattle.std.proofs.Common.{◌≡◌, ◌∙◌, ◌<◌, [], ◌∷◌, length, arith, ap, sym}
use Rattle.run_records.specs.Records.{world_of}
use Rattle.author_calls.specs.Calls.{call_of}
use Rattle.author_programs.specs.Came.{reached}
use Rattle.lang_script.specs.Seen.{caller_of}
use Rattle.lang_script.proofs.Expressions.{values_one}
use Rattle.lang_script.proofs.evaluation.props_of.Goals as goal

pub bounds-expressions-0 : goal.bounds-expressions-0
bounds-expressions-0 g c =
    let one = c.is_one.ensures c.if-is_one.true in
    let low : 0 < length c.args.expressions.now = omega (arith, one) in
    low

pub returns-then-is_one-clause-came : goal.returns-then-is_one-clause-came
returns-then-is_one-clause-came g c =
    values_one (world_of c.args.cx.now.world) (caller_of c.args.frame.now.by) c.args.frame.now.held c.args.expressions.now _ c.in_ok-value.value _ _
    (c.is_one.ensures c.if-is_one.true) c.index-expressions-0.is c.in_ok-value.ensures.came
    ∙ ap (λ vs. reached vs (call_of c.found_or_evaluated.new.cx)) (sym c.in_ok-props.ensures.value)
