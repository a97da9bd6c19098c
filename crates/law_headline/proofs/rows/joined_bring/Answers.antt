use Rattle.law_headline.proofs.Changes.{joined_bring}
use Rattle.law_headline.proofs.rows.joined_bring.Goals as goal

pub returns : goal.returns
returns c = λ es fs f g p q m n a b. joined_bring a b
