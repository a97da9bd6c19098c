-- A law.
use Rattle.law_minding.proofs.Drawn.{tasks_are_drawn}
use Rattle.law_minding.proofs.laws.tasks_are_drawn.Goals as goal

pub returns : goal.returns
returns g c = λ app. tasks_are_drawn app
