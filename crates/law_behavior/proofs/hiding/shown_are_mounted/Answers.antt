use Rattle.law_behavior.proofs.Unshown.{shown_are_mounted}
use Rattle.law_behavior.proofs.hiding.shown_are_mounted.Goals as goal

pub returns : goal.returns
returns g c = shown_are_mounted _
