use Rattle.law_behavior.proofs.MovesOwe.{logged_marks_are_run}
use Rattle.law_behavior.proofs.owing.logged_marks_are_run.Goals as goal

pub returns : goal.returns
returns g c = λ app limits m v log s settled accepted alive marked none. logged_marks_are_run app limits m v log s settled accepted alive marked none
