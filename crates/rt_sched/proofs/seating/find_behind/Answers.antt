-- No row has a number past the last one's.
use Rattle.std.proofs.Common.{arith}
use Rattle.rt_sched.proofs.Taken.{none_empty, none_above}
use Rattle.rt_sched.proofs.seating.find_behind.Goals as goal

pub returns-in_default-clause-absent : goal.returns-in_default-clause-absent
returns-in_default-clause-absent c = none_empty c.args.rows.now c.args.number c.in_default.ensures.none

pub returns-then-last-number-clause-absent : goal.returns-then-last-number-clause-absent
returns-then-last-number-clause-absent c =
    none_above c.args.rows.now c.args.number (λ k d ends. let is = c.in-Some.ensures.last k d ends in omega (arith, is, c.if-last-number.true)) c.requires.rises
