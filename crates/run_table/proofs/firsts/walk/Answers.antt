use Rattle.run_table.proofs.Rows.{first-past}
use Rattle.run_table.proofs.firsts.walk.Goals as goal

pub loop-index-preserved : goal.loop-index-preserved
loop-index-preserved g c =
    first-past c.args.rows.now c.args.number c.loop-index.index c.index-rows-index.result c.loop-index-test.true c.if-rows-index.false c.loop-index.invariant
