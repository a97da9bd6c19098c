-- From where none came.
use Rattle.law_served.proofs.Spots.{children_given}
use Rattle.law_served.proofs.brought.new_children_given.Goals as goal

pub returns : goal.returns
returns g c = λ app. children_given app
