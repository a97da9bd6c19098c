-- A law.
use Rattle.author_programs.proofs.Lawful.{plain_tests}
use Rattle.author_programs.proofs.laws.plain_tests.Goals as goal

pub returns : goal.returns
returns c = plain_tests
