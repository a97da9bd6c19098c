use Rattle.std.proofs.Common.{◌≡◌, ◌∙◌, ap, sym}
use Rattle.std.specs.Prelude.{option_map}
use Rattle.rt_model.specs.Next.{or_effects}
use Rattle.run_state.specs.Mirror.{state_of}
use Rattle.run_state.specs.Names.{work_of}
use Rattle.run_state.proofs.Leasts.{effects-mapped}
use Rattle.run_state.proofs.state.State.next_work.Goals as goal

pub returns-in-Some-clause-next : goal.returns-in-Some-clause-next
returns-in-Some-clause-next g c = λ kept.
    ap (or_effects (state_of kept c.at_rest.new.self)) (ap (option_map work_of) (sym c.in-Some.is) ∙ c.in_ok-work.ensures.next kept)

pub returns-in-None-clause-next : goal.returns-in-None-clause-next
returns-in-None-clause-next g c = λ kept.
    c.next_effects.ensures
    ∙ effects-mapped (state_of kept c.at_rest.new.self)
    ∙ ap (or_effects (state_of kept c.at_rest.new.self)) (ap (option_map work_of) (sym c.in-None.is) ∙ c.in_ok-work.ensures.next kept)
