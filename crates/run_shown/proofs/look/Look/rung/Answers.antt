-- By what is found.
use Rattle.std.proofs.Common.{◌∙◌, ap}
use Rattle.std.specs.Prelude.{Some}
use Rattle.run_shown.specs.Look.{rung_in}
use Rattle.run_shown.proofs.look.Look.rung.Goals as goal

pub returns-in-Some : goal.returns-in-Some
returns-in-Some g c = ap Some c.rung.ensures ∙ ap rung_in c.in-Some.ensures

pub returns-in-None : goal.returns-in-None
returns-in-None g c = ap rung_in c.in-None.ensures
