use Rattle.law_behavior.proofs.Unshown.{effects_are_mounted}
use Rattle.law_behavior.proofs.hiding.effects_are_mounted.Goals as goal

pub returns : goal.returns
returns g c = effects_are_mounted _
