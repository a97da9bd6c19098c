-- Each turn of the loop reads one more statement, or refuses it.
use Rattle.std.proofs.Common.{rules, ◌≡◌, Some, None, IfOk}
use Rattle.serde_json.specs.View.{view}
use Rattle.lang_expressions.proofs.Steps.{step_on, step_off, step_end}
use Rattle.lang_sources.proofs.Joined.{joined_is}
use Rattle.lang_sources.specs.Reads.{WasJoined}
use Rattle.lang_sources.specs.Statements.{statement_of, one_more}
use Rattle.lang_sources.proofs.statements.+statement.Goals as goal

pub block-returns-in_default : goal.block-returns-in_default
block-returns-in_default t c =
    let reading = statement_of c.args.levels c.args.names.now c.args.place in
    let was : WasJoined (c.loop-value.variables.items, c.loop-value.statements.items) c.statement-read.result None = rw c.in_default.is at c.in_ok-bound.ensures.joined in
    let is : IfOk c.statement-read.result (λ read. read ≡ reading c.loop-value.variables.items (view c.value-item.result)) = rw c.deref.ensures.value at c.statement-read.ensures.statement in
    let refused = joined_is reading (c.loop-value.variables.items, c.loop-value.statements.items) (view c.value-item.result) c.statement-read.result None was is in
    record { block = step_off (one_more reading) (c.loop-value.variables.items, c.loop-value.statements.items) c.args.values.now c.loop-value.value-index c.value-item.result _ (search rules) (search rules) c.loop-value.invariant refused }

pub block-loop-value-preserved : goal.block-loop-value-preserved
block-loop-value-preserved t c =
    let reading = statement_of c.args.levels c.args.names.now c.args.place in
    let was : WasJoined (c.loop-value.variables.items, c.loop-value.statements.items) c.statement-read.result (Some (c.in-Some.bound.items, c.in-Some.done.items)) = search rules in
    let is : IfOk c.statement-read.result (λ read. read ≡ reading c.loop-value.variables.items (view c.value-item.result)) = search rules in
    let next = joined_is reading (c.loop-value.variables.items, c.loop-value.statements.items) (view c.value-item.result) c.statement-read.result (Some (c.in-Some.bound.items, c.in-Some.done.items)) was is in
    step_on (one_more reading) (c.loop-value.variables.items, c.loop-value.statements.items) (c.in-Some.bound.items, c.in-Some.done.items) c.args.values.now c.loop-value.value-index c.value-item.result _ (search rules) (search rules) c.loop-value.invariant next

pub block-returns : goal.block-returns
block-returns t c =
    let step = one_more (statement_of c.args.levels c.args.names.now c.args.place) in
    record { block = step_end step _ _ c.loop-value.value-index _ (search rules) c.loop-value.invariant }
