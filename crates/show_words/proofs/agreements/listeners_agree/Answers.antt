use Rattle.show_words.proofs.Agreed.{same_listener}
use Rattle.show_words.proofs.agreements.listeners_agree.Goals as goal

pub returns : goal.returns
returns g c = record { agree = same_listener }
