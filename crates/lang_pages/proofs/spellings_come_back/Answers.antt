use Rattle.lang_pages.proofs.Put.{spelt_come_back}
use Rattle.lang_pages.proofs.spellings_come_back.Goals as goal

pub returns : goal.returns
returns g c = spelt_come_back
