use Rattle.law_kept.proofs.Handling.{written_update}
use Rattle.law_kept.proofs.calling.written_update.Goals as goal

pub returns : goal.returns
returns g c = λ w n value. written_update _ w n value
