-- By what is found.
use Rattle.std.proofs.Common.{◌∙◌, ap}
use Rattle.run_shown.proofs.Looks.{parent_in}
use Rattle.run_shown.proofs.look.Look.parent.Goals as goal

pub returns-in-Some : goal.returns-in-Some
returns-in-Some g c = ap (λ r. r.parent) c.rung.ensures ∙ ap parent_in c.in-Some.ensures

pub returns-in-None : goal.returns-in-None
returns-in-None g c = ap parent_in c.in-None.ensures
