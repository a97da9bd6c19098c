-- The calls are the program's own.
use Rattle.author_calls.proofs.ProgramsGoOn.{errors-go-on}
use Rattle.author_calls.proofs.programs.errors_go_on.Goals as goal

pub returns : goal.returns
returns g c = errors-go-on
