use Rattle.rt_text.proofs.Fits.{rows_fit}
use Rattle.rt_text.proofs.laws.rows_fit.Goals as goal

pub returns : goal.returns
returns c = rows_fit
