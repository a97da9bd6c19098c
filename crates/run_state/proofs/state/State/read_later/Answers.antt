-- It joins what is left, or is read alone.
use Rattle.run_state.proofs.state.State.read_later.Goals as goal

pub returns-in-Some : goal.returns-in-Some
returns-in-Some g c = rw c.in-Some.is c.read_on.ensures

pub returns-in-None : goal.returns-in-None
returns-in-None g c = rw c.in-None.is c.read_alone.ensures
