-- A task leaves all lists.
use Rattle.std.proofs.Common.{ap}
use Rattle.run_owed.specs.Changes.{owing_by}
use Rattle.run_owed.proofs.Stood.{stood_ended}
use Rattle.run_owed.proofs.owed.Owed.end_task.Goals as goal

pub invariant_of-self : goal.invariant_of-self
invariant_of-self c = rw (c.tell.ensures, c.forget_task.ensures.forgotten) (stood_ended (owing_by c.self.inside.told) c.self.inside.queues c.self.inside.next c.self.invariant c.args.task)

pub returns : goal.returns
returns c = record { ended = rw (← c.self.view_is) (ap owing_by c.tell.ensures) }
