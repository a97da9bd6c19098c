-- A law.
use Rattle.law_minding.proofs.Settling.{calls_are_parts}
use Rattle.law_minding.proofs.laws.calls_are_parts.Goals as goal

pub returns : goal.returns
returns g c = λ app. calls_are_parts app
