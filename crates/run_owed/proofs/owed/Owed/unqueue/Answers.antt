-- A task leaves what is queued.
use Rattle.std.proofs.Common.{ap}
use Rattle.run_owed.specs.Changes.{owing_by}
use Rattle.run_owed.proofs.Stood.{stood_unqueued}
use Rattle.run_owed.proofs.owed.Owed.unqueue.Goals as goal

pub invariant_of-self : goal.invariant_of-self
invariant_of-self c = rw (c.tell.ensures, c.unqueue_task.ensures.unqueued) (stood_unqueued (owing_by c.self.inside.told) c.self.inside.queues c.self.inside.next c.self.invariant c.args.task)

pub returns : goal.returns
returns c = record { queued = rw (← c.self.view_is) (ap owing_by c.tell.ensures) }
