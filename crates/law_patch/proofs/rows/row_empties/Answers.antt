use Rattle.std.proofs.Common.{refl}
use Rattle.law_patch.proofs.rows.row_empties.Goals as goal

pub returns : goal.returns
returns g c = λ app. record { edits = refl; gone = refl }
