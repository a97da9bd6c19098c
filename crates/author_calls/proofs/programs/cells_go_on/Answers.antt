-- The calls are the program's own.
use Rattle.author_calls.proofs.ProgramsGoOn.{cells-go-on}
use Rattle.author_calls.proofs.programs.cells_go_on.Goals as goal

pub returns : goal.returns
returns g c = cells-go-on
