use Rattle.lang_rows.proofs.Judged.{refused_exactly}
use Rattle.lang_rows.proofs.verdicts.refused_exactly.Goals as goal

pub returns : goal.returns
returns g c = λ app. refused_exactly app
