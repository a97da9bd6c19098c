use Rattle.law_headline.proofs.Changes.{both_bring}
use Rattle.law_headline.proofs.rows.both_bring.Goals as goal

pub returns : goal.returns
returns c = λ es fs f g h claims a b. both_bring a b
