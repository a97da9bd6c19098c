use Rattle.law_headline.proofs.Unfolding.{tree_unfolds}
use Rattle.law_headline.proofs.outputs.trees_unfold.Goals as goal

pub returns : goal.returns
returns g c = λ w tree s. tree_unfolds w tree s
