use Rattle.law_headline.proofs.Descent.{written_brings}
use Rattle.law_headline.proofs.outputs.written_brings.Goals as goal

pub returns : goal.returns
returns g c = λ app w v s place unfolded_w unfolded_v meets single p q x y. written_brings app w v unfolded_w unfolded_v s place meets single p q x y
