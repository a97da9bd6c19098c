-- A law.
use Rattle.author_programs.proofs.Lawful.{memoized_are_lawful}
use Rattle.author_programs.proofs.laws.memoized_are_lawful.Goals as goal

pub returns : goal.returns
returns g c = memoized_are_lawful _
