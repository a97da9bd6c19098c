use Rattle.law_behavior.proofs.Cleaning.{children_go_first}
use Rattle.law_behavior.proofs.ending.children_go_first.Goals as goal

pub returns : goal.returns
returns g c = children_go_first _
