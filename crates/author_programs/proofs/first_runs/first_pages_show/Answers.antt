-- A law.
use Rattle.author_programs.proofs.First.{first-pages-show}
use Rattle.author_programs.proofs.first_runs.first_pages_show.Goals as goal

pub returns : goal.returns
returns g c = first-pages-show _
