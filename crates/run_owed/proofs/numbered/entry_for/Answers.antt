-- The parts of the order that is made.
use Rattle.std.proofs.Common.{ap}
use Rattle.rt_values.specs.declared.names.ScopeId.{ScopeId}
use Rattle.run_owed.proofs.numbered.entry_for.Goals as goal

pub returns-in-Ok-clause-id : goal.returns-in-Ok-clause-id
returns-in-Ok-clause-id c = ap (λ (i : ScopeId). i.0) c.new.ensures.id
