use Rattle.show_words.proofs.Agreed.{same_failures}
use Rattle.show_words.proofs.agreements.failures_agree.Goals as goal

pub returns : goal.returns
returns c = record { agree = same_failures }
