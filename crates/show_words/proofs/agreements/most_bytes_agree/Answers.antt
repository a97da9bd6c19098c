use Rattle.std.proofs.Common.{refl}
use Rattle.show_words.proofs.agreements.most_bytes_agree.Goals as goal

pub returns : goal.returns
returns c = record { agree = refl }
