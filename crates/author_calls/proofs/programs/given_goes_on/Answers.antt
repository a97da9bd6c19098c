-- The calls are the program's own.
use Rattle.author_calls.proofs.ProgramsGoOn.{given-goes-on}
use Rattle.author_calls.proofs.programs.given_goes_on.Goals as goal

pub returns : goal.returns
returns g c = given-goes-on
