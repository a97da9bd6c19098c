-- By what is found.
use Rattle.std.proofs.Common.{◌∙◌, ap}
use Rattle.std.specs.Prelude.{Some}
use Rattle.run_shown.proofs.Looks.{below_in}
use Rattle.run_shown.proofs.look.Look.below.Goals as goal

pub returns-in-Some : goal.returns-in-Some
returns-in-Some g c = ap (λ r. Some r.below) c.rung.ensures ∙ ap below_in c.in-Some.ensures

pub returns-in-None : goal.returns-in-None
returns-in-None g c = ap below_in c.in-None.ensures
