-- By what is found.
use Rattle.std.proofs.Common.{◌∙◌}
use Rattle.run_shown.proofs.Looks.{shown_found}
use Rattle.run_shown.proofs.look.Look.shown_side.Goals as goal

pub returns-in-Some : goal.returns-in-Some
returns-in-Some g c = c.shown.ensures ∙ shown_found c.args.self.now c.args.scope _ c.in-Some.ensures

pub returns-in-None : goal.returns-in-None
returns-in-None g c = shown_found c.args.self.now c.args.scope _ c.in-None.ensures
