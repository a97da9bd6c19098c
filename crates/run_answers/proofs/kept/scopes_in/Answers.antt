-- One after another.
use Rattle.std.proofs.Common.{refl}
use Rattle.run_answers.proofs.Gathered.{one_more, all_gathered}
use Rattle.run_answers.proofs.kept.scopes_in.Goals as goal

pub loop-row-preserved : goal.loop-row-preserved
loop-row-preserved g c =
    one_more c.args.rows.now c.loop-row.row-index c.row-item.result (record { 0 = c.row-item.result.0 }) c.loop-row.scopes c.push.new.self
    c.loop-row-test.true c.row-item.is refl c.in_ok-push.ensures.ok c.loop-row.invariant

pub returns : goal.returns
returns g c = all_gathered c.args.rows.now c.loop-row.row-index c.loop-row.scopes c.loop-row-test.false c.loop-row.invariant
