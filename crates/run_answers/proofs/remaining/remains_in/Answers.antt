-- Task by task.
use Rattle.std.proofs.Common.{◌∙◌, ap, sym, drop, ◌+◌}
use Rattle.std.proofs.Math.ListN.{drop_of_length-le}
use Rattle.rt_model.specs.Rendering.{suspended_remains}
use Rattle.run_records.specs.Kept.{each}
use Rattle.run_state.specs.Mirror.{task_of}
use Rattle.run_answers.proofs.Asked.{remains_first, remains_later, next_drop}
use Rattle.run_answers.proofs.remaining.remains_in.Goals as goal

pub returns-then-is_suspended_task : goal.returns-then-is_suspended_task
returns-then-is_suspended_task g c =
    sym (remains_first c.entry-item.result (drop (c.loop-entry.entry-index + 1) c.args.tasks.now) (sym c.is_suspended_task.ensures ∙ c.if-is_suspended_task.true))
    ∙ ap (λ xs. suspended_remains (each task_of xs)) (sym (next_drop c.args.tasks.now c.loop-entry.entry-index c.entry-item.result c.loop-entry-test.true c.entry-item.is))
    ∙ c.loop-entry.invariant

pub loop-entry-preserved : goal.loop-entry-preserved
loop-entry-preserved g c =
    sym (remains_later c.entry-item.result (drop (c.loop-entry.entry-index + 1) c.args.tasks.now) (sym c.is_suspended_task.ensures ∙ c.if-is_suspended_task.false))
    ∙ ap (λ xs. suspended_remains (each task_of xs)) (sym (next_drop c.args.tasks.now c.loop-entry.entry-index c.entry-item.result c.loop-entry-test.true c.entry-item.is))
    ∙ c.loop-entry.invariant

pub returns : goal.returns
returns g c =
    ap (λ xs. suspended_remains (each task_of xs)) (sym (drop_of_length-le c.args.tasks.now c.loop-entry-test.false))
    ∙ c.loop-entry.invariant
