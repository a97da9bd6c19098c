use Rattle.law_headline.proofs.Changes.{inserted_brings}
use Rattle.law_headline.proofs.rows.inserted_brings.Goals as goal

pub returns : goal.returns
returns c = inserted_brings
