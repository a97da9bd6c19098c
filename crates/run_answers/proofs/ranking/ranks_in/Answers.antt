-- One after another.
use Rattle.run_state.specs.Mirror.{scopes_of}
use Rattle.run_answers.proofs.RanksFilled.{none_ranked, row_ranked, all_ranked}
use Rattle.run_answers.proofs.ranking.ranks_in.Goals as goal

pub loop-row-init : goal.loop-row-init
loop-row-init g c = none_ranked (scopes_of c.args.state.now.rows.table) c.args.rows.now c.new-ranks.result c.new-ranks.ensures.empty

pub loop-row-preserved : goal.loop-row-preserved
loop-row-preserved g c =
    row_ranked (scopes_of c.args.state.now.rows.table) c.args.rows.now c.loop-row.row-index c.row-item.result c.height_of.result c.loop-row.ranks c.insert.new.self
    c.loop-row-test.true c.row-item.is c.height_of.ensures c.in_ok-insert.ensures.joined c.loop-row.invariant

pub returns : goal.returns
returns g c = all_ranked (scopes_of c.args.state.now.rows.table) c.args.rows.now c.loop-row.row-index c.loop-row.ranks c.loop-row-test.false c.loop-row.invariant
