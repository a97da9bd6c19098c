use Rattle.law_headline.proofs.Entries.{attribute_differs}
use Rattle.law_headline.proofs.orders.attribute_differs.Goals as goal

pub returns : goal.returns
returns c = attribute_differs
