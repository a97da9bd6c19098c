-- A law.
use Rattle.author_programs.proofs.Lawful.{either_tests}
use Rattle.author_programs.proofs.laws.either_tests.Goals as goal

pub returns : goal.returns
returns g c = either_tests
