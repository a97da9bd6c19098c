use Rattle.law_lasting.proofs.Handed.{components_last}
use Rattle.law_lasting.proofs.lasting.components_last.Goals as goal

pub returns : goal.returns
returns g goals = λ app limits m v moves s c leads stays unfed h. components_last app limits m v moves s c leads stays unfed h
