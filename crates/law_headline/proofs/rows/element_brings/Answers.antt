use Rattle.law_headline.proofs.Altering.{element_brings}
use Rattle.law_headline.proofs.rows.element_brings.Goals as goal

pub returns : goal.returns
returns c = element_brings
