-- By what is found.
use Rattle.std.proofs.Common.{◌∙◌, ap}
use Rattle.std.specs.Prelude.{Some}
use Rattle.run_shown.proofs.Looks.{side_in}
use Rattle.run_shown.proofs.look.Look.side.Goals as goal

pub returns-in-Some : goal.returns-in-Some
returns-in-Some g c = ap Some c.side.ensures ∙ ap (side_in c.args.name) c.in-Some.ensures

pub returns-in-None : goal.returns-in-None
returns-in-None g c = ap (side_in c.args.name) c.in-None.ensures
