-- A law.
use Rattle.law_minding.proofs.Caused.{polls_are_caused}
use Rattle.law_minding.proofs.laws.polls_are_caused.Goals as goal

pub returns : goal.returns
returns g c = λ app. polls_are_caused app
