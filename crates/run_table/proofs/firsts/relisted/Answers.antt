-- One row more is listed, or all of them.
use Rattle.run_table.proofs.Listed.{listed-last, pushed-length}
use Rattle.run_table.proofs.firsts.relisted.Goals as goal

pub returns-then-listed : goal.returns-then-listed
returns-then-listed g c =
    λ so before value grown kept.
    listed-last c.args.rows.now before (c.args.number, value) c.saturating_sub.result c.args.firsts.now c.list_one.new.firsts grown
    (pushed-length c.args.rows.now before (c.args.number, value) c.saturating_sub.result grown c.saturating_sub.ensures)
    (kept c.if-listed.true) (c.list_one.ensures so)

pub returns-then-lost : goal.returns-then-lost
returns-then-lost g c = λ so before value grown kept. c.list_all.ensures so

pub returns : goal.returns
returns g c = λ so before value grown kept. absurd (cc so)
