use Rattle.lang_rows.proofs.Judged.{accepted_exactly}
use Rattle.lang_rows.proofs.verdicts.accepted_exactly.Goals as goal

pub returns : goal.returns
returns g c = λ app. accepted_exactly app
