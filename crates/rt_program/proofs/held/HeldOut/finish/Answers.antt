-- What is held is one put.
use Rattle.rt_program.proofs.held.HeldOut.finish.Goals as goal

pub returns : goal.returns
returns g c = record { later = c.put-done.ensures.writes.later; cause = c.put-done.ensures.writes.cause }
