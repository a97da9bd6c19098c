-- What the queues hold of a task goes, as what is told of it.
use Rattle.std.proofs.Common.{ap}
use Rattle.run_owed.specs.Changes.{owing_by}
use Rattle.run_owed.proofs.Stood.{stood_unwoken}
use Rattle.run_owed.proofs.owed.Owed.unwake.Goals as goal

pub invariant_of-self : goal.invariant_of-self
invariant_of-self c = rw (c.tell.ensures, c.start_task.ensures.started) (stood_unwoken (owing_by c.self.inside.told) c.self.inside.queues c.self.inside.next c.self.invariant c.args.task)

pub returns : goal.returns
returns c = record { unqueued = rw (← c.self.view_is) (ap owing_by c.tell.ensures) }
