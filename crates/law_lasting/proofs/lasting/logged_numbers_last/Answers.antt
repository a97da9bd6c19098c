use Rattle.law_lasting.proofs.Placed.{logged_numbers_last}
use Rattle.law_lasting.proofs.lasting.logged_numbers_last.Goals as goal

pub returns : goal.returns
returns g c = λ app limits m v log s side p k number settled accepted stays some h. logged_numbers_last app limits m v log s side p k number settled accepted stays some h
