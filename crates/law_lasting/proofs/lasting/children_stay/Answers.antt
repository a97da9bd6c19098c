use Rattle.law_lasting.proofs.Kids.{children_stay}
use Rattle.law_lasting.proofs.lasting.children_stay.Goals as goal

pub returns : goal.returns
returns g c = λ app lawful limits props inputs m v moves s side p sort child reached leads alive idle still has there h.
    children_stay app lawful limits props inputs m v moves s side p sort child reached leads alive idle still has there h
