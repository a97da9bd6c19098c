-- The law.
use Rattle.author_given.proofs.Decides.{given_tests}
use Rattle.author_given.proofs.laws.given_tests.Goals as goal

pub returns : goal.returns
returns g c = given_tests
