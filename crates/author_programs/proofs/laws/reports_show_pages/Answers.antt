-- A law.
use Rattle.author_programs.proofs.Author.{reports-show-pages}
use Rattle.author_programs.proofs.laws.reports_show_pages.Goals as goal

pub returns : goal.returns
returns g c = reports-show-pages _
