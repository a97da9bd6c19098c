use Rattle.run_shown.proofs.Touches.{covers_all, gathers_first, gathers_more}
use Rattle.run_shown.proofs.touching.rows_touched.Goals as goal

pub loop-entry-init : goal.loop-entry-init
loop-entry-init g c = gathers_first c.args.after.now c.args.stood.now c.new-scopes.result c.new-scopes.ensures.empty

pub loop-entry-preserved : goal.loop-entry-preserved
loop-entry-preserved g c =
    gathers_more c.args.after.now c.args.stood.now c.loop-entry.entry-index c.entry-item.result c.loop-entry.scopes c.reach.new.scopes c.loop-entry-test.true c.entry-item.is c.loop-entry.invariant
    (c.in_ok-reached.ensures c.if-not-reached.false)

pub returns : goal.returns
returns g c = covers_all c.args.after.now c.args.stood.now c.loop-entry.entry-index c.loop-entry.scopes c.loop-entry-test.false c.loop-entry.invariant
