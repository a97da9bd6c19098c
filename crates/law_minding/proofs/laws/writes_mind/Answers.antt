-- A law.
use Rattle.law_minding.proofs.Writes.{writes_mind}
use Rattle.law_minding.proofs.laws.writes_mind.Goals as goal

pub returns : goal.returns
returns g c = writes_mind _
