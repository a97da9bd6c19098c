use Rattle.law_moves.proofs.Woods.{reached_are_wooded}
use Rattle.law_moves.proofs.removing.reached_are_wooded.Goals as goal

pub returns : goal.returns
returns g c = λ app. reached_are_wooded app
