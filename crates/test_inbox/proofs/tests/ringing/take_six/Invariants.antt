-- The owner stays the inbox's own.
use Rattle.rt_inbox.specs.Ends.{IsOwnerOf}
use Rattle.test_inbox.proofs.tests.ringing.take_six.Given as goal

abbrev pub invariant-loop-drain : goal.invariant-loop-drain
invariant-loop-drain g l = IsOwnerOf l.inbox l.owner
