use Rattle.law_headline.proofs.Entries.{listeners_commute}
use Rattle.law_headline.proofs.orders.listeners_commute.Goals as goal

pub returns : goal.returns
returns c = listeners_commute
