-- A law.
use Rattle.law_minding.proofs.Minding.{memos_go_on}
use Rattle.law_minding.proofs.laws.memos_go_on.Goals as goal

pub returns : goal.returns
returns g c = λ a. memos_go_on a
