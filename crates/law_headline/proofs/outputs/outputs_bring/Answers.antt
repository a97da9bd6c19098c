use Rattle.law_moves.specs.Meets.{ChildBrings}
use Rattle.law_headline.proofs.Sweep.{tree_performs}
use Rattle.law_headline.proofs.outputs.outputs_bring.Goals as goal

pub returns : goal.returns
returns g c = λ app b claims above new old unstopped meets. tree_performs app b (λ t. ChildBrings b claims t) claims (λ t h. h) unstopped above new old meets
