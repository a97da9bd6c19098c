use Rattle.std.proofs.Common.{refl}
use Rattle.rt_model.specs.Removal.{tasks_in}
use Rattle.run_state.specs.Mirror.{state_of}
use Rattle.run_state.proofs.Changed.{on_ok}
use Rattle.run_state.proofs.Owned.{stops}
use Rattle.run_state.proofs.state.State.stopped.Goals as goal

pub returns : goal.returns
returns g c =
    on_ok c.drop_effects.result c.drop_effects.ensures (λ none kept.
    stops (state_of kept c.args.self.now) (state_of kept c.end_tasks.new.self) (state_of kept c.unmark.new.self) (state_of kept c.drop_effects.new.self) c.args.scope (tasks_in c.args.scope (state_of kept c.args.self.now).tasks)
    refl (c.in_ok-end_tasks.ensures kept) (c.unmark.ensures kept) (none kept))
