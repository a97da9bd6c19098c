-- A law.
use Rattle.author_programs.proofs.Present.{current-pages-show}
use Rattle.author_programs.proofs.laws.current_pages_show.Goals as goal

pub returns : goal.returns
returns g c = current-pages-show _
