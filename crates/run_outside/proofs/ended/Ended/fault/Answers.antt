use Rattle.std.proofs.Common.{subst}
use Rattle.run_outside.specs.Short.{PartBy}
use Rattle.run_outside.proofs.ended.Ended.fault.Goals as goal

pub returns-in-Run-Fault-clause-causes : goal.returns-in-Run-Fault-clause-causes
returns-in-Run-Fault-clause-causes c = λ limits before after _. c.fault_of.ensures.causes limits before after

pub returns-in-Run-Fault-clause-parts : goal.returns-in-Run-Fault-clause-parts
returns-in-Run-Fault-clause-parts c = λ taken edits part. c.fault_of.ensures.parts taken edits (subst (λ ended. PartBy ended taken edits) c.in-Run-Fault.is part)
