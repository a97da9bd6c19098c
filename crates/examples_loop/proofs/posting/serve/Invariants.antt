-- The owner stays the inbox's own.
use Rattle.rt_app.specs.InboxEnds.{IsOwnerOf}
use Rattle.examples_loop.proofs.posting.serve.Given as goal

abbrev pub invariant-loop-drain : goal.invariant-loop-drain
invariant-loop-drain g l = IsOwnerOf l.inbox l.owner
