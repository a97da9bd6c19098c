use Rattle.std.proofs.Common.{◌∙◌, ap, sym}
use Rattle.rt_model.specs.Commands.{frozen_at}
use Rattle.run_state.specs.Mirror.{state_of}
use Rattle.run_state.proofs.Changed.{on_ok}
use Rattle.run_state.proofs.state.State.freeze.Goals as goal

pub returns-in-Some-clause-frozen : goal.returns-in-Some-clause-frozen
returns-in-Some-clause-frozen g c =
    on_ok c.freeze_boundary.result c.freeze_boundary.ensures.frozen (λ is kept. is kept ∙ ap (frozen_at (state_of kept c.args.self.now)) (sym c.in-Some.is ∙ c.suspense_context.ensures kept))

pub returns-in-None-clause-frozen : goal.returns-in-None-clause-frozen
returns-in-None-clause-frozen g c = λ kept. ap (frozen_at (state_of kept c.args.self.now)) (sym c.in-None.is ∙ c.suspense_context.ensures kept)
