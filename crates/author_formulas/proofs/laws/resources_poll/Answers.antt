-- A law.
use Rattle.author_formulas.proofs.Polls.{resources_poll}
use Rattle.author_formulas.proofs.laws.resources_poll.Goals as goal

pub returns : goal.returns
returns g c = λ a. resources_poll a
