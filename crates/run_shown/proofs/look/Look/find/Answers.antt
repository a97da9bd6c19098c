-- What is kept comes before what stands.
use Rattle.std.proofs.Common.{sym}
use Rattle.rt_model.specs.Lists.{at}
use Rattle.run_shown.specs.Look.{stood_in}
use Rattle.run_shown.proofs.Looks.{seen_kept}
use Rattle.run_shown.proofs.look.Look.find.Goals as goal

pub returns-in-Some : goal.returns-in-Some
returns-in-Some g c =
    seen_kept (at (stood_in c.args.self.now) c.args.scope) (at (c.args.self.now.rows.now).table c.args.scope) c.in-Some.stood.now c.in-Some.ensures

pub returns-in-None : goal.returns-in-None
returns-in-None g c = c.found_now.ensures (sym c.in-None.ensures)
