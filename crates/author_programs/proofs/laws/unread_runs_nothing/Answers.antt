-- A law.
use Rattle.author_programs.proofs.Author.{unread-runs-nothing}
use Rattle.author_programs.proofs.laws.unread_runs_nothing.Goals as goal

pub returns : goal.returns
returns g c = unread-runs-nothing _
