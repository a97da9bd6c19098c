-- A law.
use Rattle.author_programs.proofs.Lawful.{pages_are_lawful}
use Rattle.author_programs.proofs.laws.pages_are_lawful.Goals as goal

pub returns : goal.returns
returns g c = pages_are_lawful _
