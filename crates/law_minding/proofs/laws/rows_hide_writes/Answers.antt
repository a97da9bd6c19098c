-- A law.
use Rattle.std.proofs.Common.{refl}
use Rattle.law_minding.proofs.laws.rows_hide_writes.Goals as goal

pub returns : goal.returns
returns g c = λ app before after task. (refl, refl, refl, refl)
