use Rattle.std.proofs.Common.{◌∙◌, sym}
use Rattle.run_state.specs.Mirror.{state_of}
use Rattle.run_state.proofs.Changed.{on_ok}
use Rattle.run_state.proofs.Entered.{scope_entered}
use Rattle.run_state.proofs.Spawned.{spawned_in, not_spawned}
use Rattle.run_state.proofs.Unchanged.{never}
use Rattle.run_state.proofs.state.State.spawn.Goals as goal

pub returns-then-not-is_live-clause-spawned : goal.returns-then-not-is_live-clause-spawned
returns-then-not-is_live-clause-spawned g c = not_spawned c.args.self.now c.args.polled c.args.scope c.args.task c.args.state c.args.isomorphic (λ kept. sym (c.is_live.ensures kept) ∙ c.if-not-is_live.true)

pub push_task-requires : goal.push_task-requires
push_task-requires g c = record { live = scope_entered c.args.self.now c.args.scope (λ kept. sym (c.is_live.ensures kept) ∙ c.if-not-is_live.false) }

pub returns-clause-spawned : goal.returns-clause-spawned
returns-clause-spawned g c =
    on_ok c.post.result c.post.ensures.posted (λ posted kept. posted kept
    ∙ spawned_in c.args.self.now c.args.polled c.args.scope c.args.task c.args.state c.args.isomorphic c.of-was.result c.first_kind-kind.result (λ kept. sym (c.is_live.ensures kept) ∙ c.if-not-is_live.false) c.first_kind-kind.ensures
    kept (state_of kept c.push_task.new.self) (c.in_ok-push_task.ensures.pushed kept))

pub returns-clause-err : goal.returns-clause-err
returns-clause-err g c = never _ c.post.result c.post.ensures.ok
