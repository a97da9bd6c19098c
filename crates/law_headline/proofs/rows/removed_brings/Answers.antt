use Rattle.law_headline.proofs.Changes.{removed_brings}
use Rattle.law_headline.proofs.rows.removed_brings.Goals as goal

pub returns : goal.returns
returns c = removed_brings
