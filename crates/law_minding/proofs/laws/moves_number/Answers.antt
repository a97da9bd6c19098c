-- A law.
use Rattle.law_minding.proofs.Numbering.{moves_number}
use Rattle.law_minding.proofs.laws.moves_number.Goals as goal

pub returns : goal.returns
returns g c = λ app. moves_number app
