use Rattle.law_moves.proofs.Sorted.{children_fit_slots}
use Rattle.law_moves.proofs.settling.children_fit_slots.Goals as goal

pub returns : goal.returns
returns g c = λ app. children_fit_slots app
