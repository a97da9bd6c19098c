-- The calls are the program's own.
use Rattle.author_calls.proofs.ProgramsGoOn.{hooks-go-on}
use Rattle.author_calls.proofs.programs.hooks_go_on.Goals as goal

pub returns : goal.returns
returns g c = hooks-go-on
