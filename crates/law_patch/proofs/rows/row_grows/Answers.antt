use Rattle.std.proofs.Common.{refl}
use Rattle.law_patch.proofs.rows.row_grows.Goals as goal

pub returns : goal.returns
returns g c = λ app. record { edits = refl; marks = refl }
