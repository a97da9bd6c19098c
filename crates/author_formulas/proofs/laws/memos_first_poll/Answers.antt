-- A law.
use Rattle.author_formulas.proofs.Polls.{memos_first_poll}
use Rattle.author_formulas.proofs.laws.memos_first_poll.Goals as goal

pub returns : goal.returns
returns g c = λ a. memos_first_poll a
