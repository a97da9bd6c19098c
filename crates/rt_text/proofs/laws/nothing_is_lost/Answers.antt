use Rattle.rt_text.proofs.Characters.{nothing_lost}
use Rattle.rt_text.proofs.laws.nothing_is_lost.Goals as goal

pub returns : goal.returns
returns c = nothing_lost
