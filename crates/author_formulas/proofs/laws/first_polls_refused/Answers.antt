-- A law.
use Rattle.author_formulas.proofs.Polls.{first_polls_refused}
use Rattle.author_formulas.proofs.laws.first_polls_refused.Goals as goal

pub returns : goal.returns
returns g c = λ a. first_polls_refused a
