use Rattle.std.proofs.Common.{◌≡◌, ◌∙◌, ap, sym}
use Rattle.std.specs.Prelude.{option_map}
use Rattle.rt_model.specs.Next.{or_effects}
use Rattle.run_state.specs.Names.{work_of}
use Rattle.run_state.specs.Mirror.{state_of}
use Rattle.run_state.proofs.Leasts.{effects-mapped}
use Rattle.run_state.proofs.state.State.next_at_rest.Goals as goal

pub returns-in-Some : goal.returns-in-Some
returns-in-Some g c = λ kept. ap (or_effects (state_of kept c.args.self.now)) (ap (option_map work_of) (sym c.in-Some.is) ∙ c.found.ensures kept)

pub returns-in-None : goal.returns-in-None
returns-in-None g c = λ kept.
    c.next_effects.ensures
    ∙ effects-mapped (state_of kept c.args.self.now)
    ∙ ap (or_effects (state_of kept c.args.self.now)) (ap (option_map work_of) (sym c.in-None.is) ∙ c.found.ensures kept)
