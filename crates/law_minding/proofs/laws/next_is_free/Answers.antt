-- A law.
use Rattle.law_minding.proofs.Opened.{next_is_free}
use Rattle.law_minding.proofs.laws.next_is_free.Goals as goal

pub returns : goal.returns
returns g c = λ app. next_is_free app
