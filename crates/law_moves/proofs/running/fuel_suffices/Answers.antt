use Rattle.law_moves.proofs.Fuel.{fuel_suffices}
use Rattle.law_moves.proofs.running.fuel_suffices.Goals as goal

pub returns : goal.returns
returns g c = λ app. fuel_suffices app
