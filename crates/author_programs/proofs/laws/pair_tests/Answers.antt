-- A law.
use Rattle.author_programs.proofs.Lawful.{pair_tests}
use Rattle.author_programs.proofs.laws.pair_tests.Goals as goal

pub returns : goal.returns
returns g c = pair_tests
