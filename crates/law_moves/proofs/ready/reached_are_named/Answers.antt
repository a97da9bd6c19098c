use Rattle.law_moves.proofs.Everywhere.{reached_are_named}
use Rattle.law_moves.proofs.ready.reached_are_named.Goals as goal

pub returns : goal.returns
returns g c = λ app. reached_are_named app
