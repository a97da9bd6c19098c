-- A law.
use Rattle.author_formulas.proofs.Looking.{looking_reads}
use Rattle.author_formulas.proofs.laws.looking_reads.Goals as goal

pub returns : goal.returns
returns g c = looking_reads _ _
