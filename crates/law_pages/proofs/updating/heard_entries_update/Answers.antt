use Rattle.law_pages.proofs.Listening.{heard_entries_update}
use Rattle.law_pages.proofs.updating.heard_entries_update.Goals as goal

pub returns : goal.returns
returns g c = λ k a m l ls e alive idle none event waits. heard_entries_update _ k a m l ls e alive idle none event waits
