use Rattle.std.proofs.Common.{◌∙◌, ap, sym}
use Rattle.rt_model.specs.Commands.{registered}
use Rattle.run_state.specs.Mirror.{state_of}
use Rattle.run_state.proofs.Changed.{on_ok}
use Rattle.run_state.proofs.state.State.register.Goals as goal

pub returns-in-Some-clause-registered : goal.returns-in-Some-clause-registered
returns-in-Some-clause-registered g c =
    on_ok c.add_callback.result c.add_callback.ensures.added (λ is kept. is kept ∙ ap (registered (state_of kept c.args.self.now) c.args.scope c.args.effect) (sym c.in-Some.is ∙ c.suspense_context.ensures kept))

pub returns-in-None-clause-registered : goal.returns-in-None-clause-registered
returns-in-None-clause-registered g c = λ kept. ap (registered (state_of kept c.args.self.now) c.args.scope c.args.effect) (sym c.in-None.is ∙ c.suspense_context.ensures kept)
