use Rattle.law_headline.proofs.Changes.{nothing_brings}
use Rattle.law_headline.proofs.rows.nothing_brings.Goals as goal

pub returns : goal.returns
returns c = nothing_brings
