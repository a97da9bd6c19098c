-- The calls are the program's own.
use Rattle.author_calls.proofs.ProgramsGoOn.{reads-go-on}
use Rattle.author_calls.proofs.programs.reads_go_on.Goals as goal

pub returns : goal.returns
returns g c = reads-go-on
