-- A law.
use Rattle.author_programs.proofs.Lawful.{coded_tests}
use Rattle.author_programs.proofs.laws.coded_tests.Goals as goal

pub returns : goal.returns
returns g c = coded_tests
