use Rattle.std.proofs.Common.{ap, ◌∙◌}
use Rattle.std.specs.Prelude.{slice_set}
use Rattle.rt_sched.specs.Seats.{taken, seat_of}
use Rattle.rt_sched.proofs.Taken.{rises_set, at_row, written}
use Rattle.rt_sched.proofs.seating.change_row.Goals as goal

pub returns-clause-rises : goal.returns-clause-rises
returns-clause-rises c =
    rw c.replace-number.ensures.after (rises_set c.args.rows.now.items 0 c.args.index c.args.number c.args.seat c.requires.within c.requires.own c.requires.rises)

pub returns-clause-set : goal.returns-clause-set
returns-clause-set c = ap (λ row. slice_set c.args.rows.now.items c.args.index row) c.replace-number.ensures.after

pub returns-clause-former : goal.returns-clause-former
returns-clause-former c =
    ap (λ r. r.1) (c.replace-number.ensures.value ∙ c.index_mut.ensures.value)
    ∙ at_row c.args.rows.now.items 0 c.args.index c.args.number c.requires.within c.requires.own c.requires.rises c.index_mut.result.now

pub returns-clause-seated : goal.returns-clause-seated
returns-clause-seated c =
    λ q.
    ap (λ row. seat_of (taken (slice_set c.args.rows.now.items c.args.index row)) q) c.replace-number.ensures.after
    ∙ written c.args.rows.now.items 0 c.args.index c.args.number c.args.seat c.requires.within c.requires.own c.requires.rises q
