use Rattle.law_pages.proofs.Listening.{listeners_update}
use Rattle.law_pages.proofs.updating.listeners_update.Goals as goal

pub returns : goal.returns
returns g c = listeners_update _
