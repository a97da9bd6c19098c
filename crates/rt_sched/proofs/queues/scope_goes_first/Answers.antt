use Rattle.rt_sched.proofs.queues.scope_goes_first.Goals as goal

pub returns-in-Some-Some : goal.returns-in-Some-Some
returns-in-Some-Some c =
    record { first = rw (c.in-Some-Some.is-0, c.in-Some-Some.is-1) c.is_before.ensures.before }
