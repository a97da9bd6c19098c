use Rattle.std.proofs.Common.{refl}
use Rattle.lang_rows.proofs.fit_rows.slots_fit.Goals as goal

pub returns : goal.returns
returns c = (refl, refl, refl, refl, refl)
