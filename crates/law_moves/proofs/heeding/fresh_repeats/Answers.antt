use Rattle.law_moves.proofs.Again.{fresh_repeats}
use Rattle.law_moves.proofs.heeding.fresh_repeats.Goals as goal

pub returns : goal.returns
returns g c = λ app lawful w x last stands fresh. fresh_repeats app lawful w x last stands fresh
