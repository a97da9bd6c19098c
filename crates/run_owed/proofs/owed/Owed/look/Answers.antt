-- A look of the queues is one of the lists.
use Rattle.std.proofs.Common.{ap}
use Rattle.run_owed.specs.Changes.{owing_by}
use Rattle.run_owed.proofs.Stood.{stood_looked}
use Rattle.run_owed.proofs.owed.Owed.look.Goals as goal

pub invariant_of-self : goal.invariant_of-self
invariant_of-self c = rw (c.tell.ensures, c.look-done.ensures.looked) (stood_looked (owing_by c.self.inside.told) c.self.inside.queues c.self.inside.next c.self.invariant)

pub returns : goal.returns
returns c = record { looked = rw (← c.self.view_is) (ap owing_by c.tell.ensures) }
