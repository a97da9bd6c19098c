use Rattle.law_headline.proofs.Entries.{attribute_goes}
use Rattle.law_headline.proofs.orders.attribute_goes.Goals as goal

pub returns : goal.returns
returns c = attribute_goes
