-- A scope leaves what is seen.
use Rattle.std.proofs.Common.{ap}
use Rattle.run_owed.specs.Changes.{owing_by}
use Rattle.run_owed.proofs.Stood.{stood_unseen}
use Rattle.run_owed.proofs.owed.Owed.unsee.Goals as goal

pub invariant_of-self : goal.invariant_of-self
invariant_of-self c = rw (c.tell.ensures, c.unsee_scope.ensures.unseen) (stood_unseen (owing_by c.self.inside.told) c.self.inside.queues c.self.inside.next c.self.invariant c.args.scope)

pub returns : goal.returns
returns c = record { seen = rw (← c.self.view_is) (ap owing_by c.tell.ensures) }
