-- The calls are the program's own.
use Rattle.author_calls.proofs.ProgramsGoOn.{tasks-go-on}
use Rattle.author_calls.proofs.programs.tasks_go_on.Goals as goal

pub returns : goal.returns
returns g c = tasks-go-on
