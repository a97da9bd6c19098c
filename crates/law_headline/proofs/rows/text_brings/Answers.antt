use Rattle.law_headline.proofs.Changes.{text_brings}
use Rattle.law_headline.proofs.rows.text_brings.Goals as goal

pub returns : goal.returns
returns c = text_brings
