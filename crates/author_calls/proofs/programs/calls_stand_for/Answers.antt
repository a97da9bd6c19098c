-- The calls are the program's own.
use Rattle.author_calls.proofs.ProgramsGoOn.{stand-for}
use Rattle.author_calls.proofs.programs.calls_stand_for.Goals as goal

pub returns : goal.returns
returns g c = stand-for
