-- The law.
use Rattle.law_pages.proofs.OnePage.{one_page_shows}
use Rattle.law_pages.proofs.one_page.one_page_shows.Goals as goal

pub returns : goal.returns
returns g c = one_page_shows _
