use Rattle.law_reduce.proofs.Heard.{one_hears}
use Rattle.law_reduce.proofs.reducing.one_hears.Goals as goal

pub returns : goal.returns
returns g c = λ a w name payload element bubbles. one_hears _ a w name payload element bubbles
