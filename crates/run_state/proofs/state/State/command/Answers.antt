use Rattle.std.proofs.Common.{◌∙◌, ap}
use Rattle.rt_model.specs.Commands.{provide_context}
use Rattle.run_state.specs.Mirror.{state_of}
use Rattle.run_state.proofs.Changed.{on_ok}
use Rattle.run_state.proofs.state.State.command.Goals as goal

pub returns-in-NewCell : goal.returns-in-NewCell
returns-in-NewCell g c = λ app decides. rw c.in-NewCell.is (on_ok c.new_cell.result c.new_cell.ensures (λ is kept. is kept app c.args.polled))

pub returns-in-NewContext : goal.returns-in-NewContext
returns-in-NewContext g c = λ app decides. rw c.in-NewContext.is (on_ok c.new_context.result c.new_context.ensures (λ is kept. is kept app c.args.polled))

pub returns-in-Reset : goal.returns-in-Reset
returns-in-Reset g c = λ app decides. rw c.in-Reset.is (on_ok c.reset_context.result c.reset_context.ensures (λ is kept. is kept app c.args.scope c.args.polled))

pub returns-in-ReadInto : goal.returns-in-ReadInto
returns-in-ReadInto g c = λ app decides. rw c.in-ReadInto.is (on_ok c.read_into.result c.read_into.ensures (λ is kept. is kept app c.args.scope c.args.polled))

pub returns-in-Provide : goal.returns-in-Provide
returns-in-Provide g c = λ app decides. rw c.in-Provide.is
    (on_ok c.provide_context.result (c.provide_context.ensures.provided app decides) (λ is kept. is kept ∙ ap (λ s. provide_context app (state_of kept c.args.self.now) s c.in-Provide.kind c.in-Provide.value) c.owner-in-Provide.ensures))

pub returns-in-KeepHook : goal.returns-in-KeepHook
returns-in-KeepHook g c = λ app decides. rw c.in-KeepHook.is c.keep_hook.ensures

pub returns-in-QueueEffect : goal.returns-in-QueueEffect
returns-in-QueueEffect g c = λ app decides. rw c.in-QueueEffect.is c.queue_effect.ensures
