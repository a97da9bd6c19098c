use Rattle.law_lasting.proofs.Kids.{logged_children_last}
use Rattle.law_lasting.proofs.lasting.logged_children_last.Goals as goal

pub returns : goal.returns
returns g c = λ app lawful limits m v log s side p sort child settled accepted stays has h. logged_children_last app lawful limits m v log s side p sort child settled accepted stays has h
