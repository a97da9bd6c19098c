-- A law.
use Rattle.law_minding.proofs.Polled.{polls_stand}
use Rattle.law_minding.proofs.laws.polls_stand.Goals as goal

pub returns : goal.returns
returns g c = λ a. polls_stand a
