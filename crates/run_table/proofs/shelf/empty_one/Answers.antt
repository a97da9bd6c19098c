use Rattle.std.specs.Prelude.{None}
use Rattle.run_table.proofs.Lives.{rises-ascends, rises-set, live-absent, live-emptied}
use Rattle.run_table.proofs.shelf.empty_one.Goals as goal

pub near-requires : goal.near-requires
near-requires g c = record { ascending = rw c.as_slice.ensures.value (rises-ascends c.args.rows.now.items 0 c.requires.rises) }

pub returns-in_default-clause-others : goal.returns-in_default-clause-others
returns-in_default-clause-others g c = live-absent c.args.rows.now.items c.args.number (rw (← c.as_slice.ensures.value) c.in_default.ensures.absent)

pub returns-clause-rises : goal.returns-clause-rises
returns-clause-rises g c =
    rises-set c.args.rows.now.items 0 c.in-Some.index c.args.number None (rw (← c.as_slice.ensures.value) c.in-Some.ensures.within) (rw (← c.as_slice.ensures.value) c.in-Some.ensures.own) c.requires.rises

pub returns-clause-others : goal.returns-clause-others
returns-clause-others g c =
    live-emptied c.args.rows.now.items 0 c.in-Some.index c.args.number (rw (← c.as_slice.ensures.value) c.in-Some.ensures.within) (rw (← c.as_slice.ensures.value) c.in-Some.ensures.own) c.requires.rises
