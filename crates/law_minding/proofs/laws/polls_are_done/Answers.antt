-- A law.
use Rattle.law_minding.proofs.PollsDone.{polls_are_done}
use Rattle.law_minding.proofs.laws.polls_are_done.Goals as goal

pub returns : goal.returns
returns g c = λ app a state. polls_are_done a app state
