use Rattle.law_pages.proofs.Hearing.{events_update}
use Rattle.law_pages.proofs.updating.events_update.Goals as goal

pub returns : goal.returns
returns g c = λ k a ls m e log v built alive idle none event waits accepted quiet. events_update _ k a ls m e log v built alive idle none event waits accepted quiet
