-- Row by row.
use Rattle.std.proofs.Common.{get_or}
use Rattle.std.proofs.lemmas.List.{get_or_default}
use Rattle.run_table.proofs.Listed.{listed-more, none-listed, all-listed}
use Rattle.run_table.proofs.firsts.list_all.Goals as goal

pub loop-index-init : goal.loop-index-init
loop-index-init g c = none-listed c.args.rows.now c.clear.new.self c.clear.ensures.empty

pub loop-index-preserved : goal.loop-index-preserved
loop-index-preserved g c =
    let row = get_or c.args.rows.now c.loop-index.index c.index-rows-index.result in
    listed-more c.args.rows.now c.loop-index.index row c.loop-index.firsts c.list_one.new.firsts c.loop-index-test.true
    (get_or_default c.args.rows.now c.loop-index.index c.index-rows-index.result row c.loop-index-test.true) c.loop-index.invariant
    (c.list_one.ensures c.if-not-list_one.false)

pub returns : goal.returns
returns g c = λ _. all-listed c.args.rows.now c.loop-index.index c.loop-index.firsts c.loop-index-test.false c.loop-index.invariant
