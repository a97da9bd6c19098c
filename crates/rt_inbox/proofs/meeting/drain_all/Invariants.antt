-- What was taken so far is what the drains so far hold.
use Rattle.rt_inbox.specs.Ends.{IsOwnerOf}
use Rattle.rt_inbox.specs.Posted.{HasDrained}
use Rattle.rt_inbox.proofs.meeting.drain_all.Given as goal

abbrev pub invariant-loop : goal.invariant-loop
invariant-loop g l = record {
  own : IsOwnerOf l.inbox l.owner;
  drained : HasDrained l.fn.owner l.owner l.fn.drains l.drains;
}
