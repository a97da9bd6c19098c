-- A law.
use Rattle.author_formulas.proofs.Polls.{memos_poll}
use Rattle.author_formulas.proofs.laws.memos_poll.Goals as goal

pub returns : goal.returns
returns g c = λ a. memos_poll a
