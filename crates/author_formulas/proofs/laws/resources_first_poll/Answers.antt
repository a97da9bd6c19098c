-- A law.
use Rattle.author_formulas.proofs.Polls.{resources_first_poll}
use Rattle.author_formulas.proofs.laws.resources_first_poll.Goals as goal

pub returns : goal.returns
returns g c = λ a. resources_first_poll a
