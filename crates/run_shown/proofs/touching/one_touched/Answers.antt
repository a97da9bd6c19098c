-- Those above one scope.
use Rattle.run_shown.proofs.Touches.{covers_one}
use Rattle.run_shown.proofs.touching.one_touched.Goals as goal

pub returns : goal.returns
returns g c = covers_one c.args.after.now c.args.row.now c.new-scopes.result c.reach.new.scopes c.new-scopes.ensures.empty (c.in_ok-reached.ensures c.if-not-reached.false)
