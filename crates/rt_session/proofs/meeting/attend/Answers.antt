-- One drain more, or the end.
use Rattle.std.proofs.lemmas.Result.{err_from_is_err_and}
use Rattle.rt_session.proofs.meeting.attend.Goals as goal

pub loop-init : goal.loop-init
loop-init g c = record { own = c.requires.own; awaits = λ props before faults awaits. awaits; taken = λ start. start }

pub loop-preserved : goal.loop-preserved
loop-preserved g c =
    record {
      own = c.in_ok-count.ensures.own;
      awaits = λ props before faults awaits. c.in_ok-count.ensures.takes props before faults (c.loop.invariant.awaits props before faults awaits);
      taken = λ start. c.in_ok-count.ensures.taken (c.loop.invariant.taken start);
    }

pub returns-in_err-count-clause-own : goal.returns-in_err-count-clause-own
returns-in_err-count-clause-own g c = c.in_err-count.ensures.own

pub returns-in_err-count-clause-takes : goal.returns-in_err-count-clause-takes
returns-in_err-count-clause-takes g c = λ props before faults awaits.
    let p = err_from_is_err_and c.from_residual.result c.from_residual.ensures.1 in
    rw (p.1, p.2) (c.in_err-count.ensures.takes props before faults (c.loop.invariant.awaits props before faults awaits))

pub returns-in_err-count-clause-taken : goal.returns-in_err-count-clause-taken
returns-in_err-count-clause-taken g c = λ start.
    let p = err_from_is_err_and c.from_residual.result c.from_residual.ensures.1 in
    rw (p.1, p.2) (c.in_err-count.ensures.taken (c.loop.invariant.taken start))
