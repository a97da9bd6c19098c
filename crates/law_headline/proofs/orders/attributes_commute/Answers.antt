use Rattle.law_headline.proofs.Entries.{attributes_commute}
use Rattle.law_headline.proofs.orders.attributes_commute.Goals as goal

pub returns : goal.returns
returns c = attributes_commute
