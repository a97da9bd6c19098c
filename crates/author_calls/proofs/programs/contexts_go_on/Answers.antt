-- The calls are the program's own.
use Rattle.author_calls.proofs.ProgramsGoOn.{contexts-go-on}
use Rattle.author_calls.proofs.programs.contexts_go_on.Goals as goal

pub returns : goal.returns
returns g c = contexts-go-on
