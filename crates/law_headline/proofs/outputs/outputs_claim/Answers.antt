use Rattle.law_moves.specs.Meets.{ChildBrings}
use Rattle.law_headline.proofs.Claims.{tree_claimed}
use Rattle.law_headline.proofs.outputs.outputs_claim.Goals as goal

pub returns : goal.returns
returns g c = λ app b claims above new old n meets. tree_claimed app b (λ t. ChildBrings b claims t) claims (λ t h. h) n above new old meets
