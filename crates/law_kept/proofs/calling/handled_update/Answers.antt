use Rattle.law_kept.proofs.Handling.{handled_update}
use Rattle.law_kept.proofs.calling.handled_update.Goals as goal

pub returns : goal.returns
returns g c = λ k a limits w name payload element bubbles prevented log edits v alone r. handled_update _ k a limits w name payload element bubbles prevented log edits v alone r
