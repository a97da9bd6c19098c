use Rattle.law_lasting.proofs.Handed.{logged_components_last}
use Rattle.law_lasting.proofs.lasting.logged_components_last.Goals as goal

pub returns : goal.returns
returns g goals = λ app limits m v log s c settled accepted stays unfed h. logged_components_last app limits m v log s c settled accepted stays unfed h
