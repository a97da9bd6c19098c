use Rattle.law_behavior.proofs.MovesOwe.{marks_are_run}
use Rattle.law_behavior.proofs.owing.marks_are_run.Goals as goal

pub returns : goal.returns
returns g c = λ app limits m v moves s leads alive marked none. marks_are_run app limits m v moves s leads alive marked none
