-- The one row of the number has its value, or there is none.
use Rattle.run_table.proofs.Lives.{rises-ascends, live-at, live-none}
use Rattle.run_table.proofs.shelf.rising_index.Goals as goal

pub near-requires : goal.near-requires
near-requires g c = record { ascending = rises-ascends c.args.rows.now 0 c.requires.rises }

pub returns-in-Some-clause-value : goal.returns-in-Some-clause-value
returns-in-Some-clause-value g c = live-at c.args.rows.now 0 c.in-Some.index c.args.number c.in-Some.ensures.within c.in-Some.ensures.own c.requires.rises

pub returns-in-None-clause-absent : goal.returns-in-None-clause-absent
returns-in-None-clause-absent g c = live-none c.args.rows.now c.args.number c.in-None.ensures.absent
