use Rattle.law_lasting.proofs.Kids.{children_last}
use Rattle.law_lasting.proofs.lasting.children_last.Goals as goal

pub returns : goal.returns
returns g c = λ app lawful limits m v moves s side p sort child leads still has there h. children_last app lawful limits m v moves s side p sort child leads still has there h
