use Rattle.law_headline.proofs.Descent.{scope_sweep}
use Rattle.law_headline.proofs.outputs.scopes_bring.Goals as goal

pub returns : goal.returns
returns g c = λ app w v m s unfolded_w unfolded_v meets. ((scope_sweep app w v unfolded_w unfolded_v m s meets).performs, (scope_sweep app w v unfolded_w unfolded_v m s meets).bounded)
