-- No row has a number past the last one's.
use Rattle.run_table.proofs.Single.{none-empty, none-past}
use Rattle.run_table.proofs.table.from_behind.Goals as goal

pub returns-in_default-clause-absent : goal.returns-in_default-clause-absent
returns-in_default-clause-absent g c = none-empty c.args.rows.now c.args.number c.in_default.ensures.none

pub returns-then-last-number-clause-absent : goal.returns-then-last-number-clause-absent
returns-then-last-number-clause-absent g c =
    none-past c.args.rows.now c.args.number c.in-Some.last c.requires.ascending c.in-Some.ensures.last c.if-last-number.true
