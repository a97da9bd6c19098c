-- A law.
use Rattle.author_formulas.proofs.Deciding.{looking_decides}
use Rattle.author_formulas.proofs.laws.looking_decides.Goals as goal

pub returns : goal.returns
returns g c = looking_decides _ _
