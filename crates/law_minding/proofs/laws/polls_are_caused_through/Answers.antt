-- A law.
use Rattle.law_minding.proofs.Through.{polls_are_caused_through}
use Rattle.law_minding.proofs.laws.polls_are_caused_through.Goals as goal

pub returns : goal.returns
returns g c = λ app. polls_are_caused_through app
