-- What the queues hold of a scope goes, as what is told of it.
use Rattle.std.proofs.Common.{ap}
use Rattle.run_owed.specs.Changes.{owing_by}
use Rattle.run_owed.proofs.Stood.{stood_unmarked}
use Rattle.run_owed.proofs.owed.Owed.unmark.Goals as goal

pub invariant_of-self : goal.invariant_of-self
invariant_of-self c = rw (c.tell.ensures, c.start_scope.ensures.started) (stood_unmarked (owing_by c.self.inside.told) c.self.inside.queues c.self.inside.next c.self.invariant c.args.scope)

pub returns : goal.returns
returns c = record { unmarked = rw (← c.self.view_is) (ap owing_by c.tell.ensures) }
