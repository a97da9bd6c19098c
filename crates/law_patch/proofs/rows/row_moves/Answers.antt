use Rattle.std.proofs.Common.{refl}
use Rattle.law_patch.proofs.rows.row_moves.Goals as goal

pub returns : goal.returns
returns g c = λ app handler. refl
