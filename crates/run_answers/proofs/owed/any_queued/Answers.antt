use Rattle.std.proofs.Common.{◌∙◌, sym}
use Rattle.run_owed.specs.Stands.{owner_order, queued_in_turn}
use Rattle.run_owed.proofs.Turns.{turns_once}
use Rattle.run_state.specs.Mirror.{state_of}
use Rattle.run_answers.proofs.InTurn.{active_behind, active_first, active_in_turn, fewer_left, none_active}
use Rattle.run_answers.proofs.owed.any_queued.Goals as goal

pub returns-then-is_active : goal.returns-then-is_active
returns-then-is_active g c =
    λ kept.
    let w = state_of kept c.args.state.now in
    let o = c.args.state.now.owed in
    sym (active_first w.tasks c.loop-task.last c.in-Some.task (queued_in_turn o) (turns_once (owner_order o.scopes o.tasks) o.queued) (sym c.in-Some.is ∙ c.queued_after.ensures) (sym (c.is_active.ensures kept) ∙ c.if-is_active.true))
    ∙ c.loop-task.invariant kept
    ∙ active_in_turn w.tasks (owner_order o.scopes o.tasks) o.queued

pub loop-task-preserved : goal.loop-task-preserved
loop-task-preserved g c =
    λ kept.
    let w = state_of kept c.args.state.now in
    let o = c.args.state.now.owed in
    active_behind w.tasks c.loop-task.last c.in-Some.task (queued_in_turn o) (turns_once (owner_order o.scopes o.tasks) o.queued) (sym c.in-Some.is ∙ c.queued_after.ensures) (sym (c.is_active.ensures kept) ∙ c.if-is_active.false)
    ∙ c.loop-task.invariant kept

pub loop-task-smaller : goal.loop-task-smaller
loop-task-smaller g c =
    let o = c.args.state.now.owed in
    fewer_left c.loop-task.last c.in-Some.task (queued_in_turn o) (turns_once (owner_order o.scopes o.tasks) o.queued) (sym c.in-Some.is ∙ c.queued_after.ensures)

pub returns : goal.returns
returns g c =
    λ kept.
    let w = state_of kept c.args.state.now in
    let o = c.args.state.now.owed in
    none_active w.tasks c.loop-task.last (queued_in_turn o) (sym c.in_default.is ∙ c.queued_after.ensures)
    ∙ c.loop-task.invariant kept
    ∙ active_in_turn w.tasks (owner_order o.scopes o.tasks) o.queued
