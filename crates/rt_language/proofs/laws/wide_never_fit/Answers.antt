use Rattle.rt_language.proofs.Wide.{wide_never_fit}
use Rattle.rt_language.proofs.laws.wide_never_fit.Goals as goal

pub returns : goal.returns
returns c = wide_never_fit
