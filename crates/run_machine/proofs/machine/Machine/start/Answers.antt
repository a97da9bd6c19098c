-- A start from ones.
use Rattle.run_machine.proofs.machine.Machine.start.Goals as goal

pub returns-clause-fresh : goal.returns-clause-fresh
returns-clause-fresh g c = c.start_from.ensures.fresh

pub returns-clause-state : goal.returns-clause-state
returns-clause-state g c = c.start_from.ensures.state

pub returns-clause-uncalled : goal.returns-clause-uncalled
returns-clause-uncalled g c = c.start_from.ensures.uncalled
