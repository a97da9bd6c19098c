-- The law.
use Rattle.law_pages.proofs.OnePage.{one_read_shows}
use Rattle.law_pages.proofs.one_page.one_read_shows.Goals as goal

pub returns : goal.returns
returns g c = one_read_shows _
