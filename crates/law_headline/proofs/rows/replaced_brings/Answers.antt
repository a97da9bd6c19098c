use Rattle.law_headline.proofs.Changes.{replaced_brings}
use Rattle.law_headline.proofs.rows.replaced_brings.Goals as goal

pub returns : goal.returns
returns c = replaced_brings
