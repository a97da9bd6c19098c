use Rattle.law_pages.proofs.Writes.{heard_entries_write}
use Rattle.law_pages.proofs.writing.heard_entries_write.Goals as goal

pub returns : goal.returns
returns g c = λ app. heard_entries_write app
