-- A law.
use Rattle.author_programs.proofs.Author.{heard-from-below}
use Rattle.author_programs.proofs.laws.heard_from_below.Goals as goal

pub returns : goal.returns
returns g c = heard-from-below _
