-- It is read as it comes.
use Rattle.run_state.proofs.state.State.read_alone.Goals as goal

pub returns : goal.returns
returns g c = λ kept app scope polled. c.in_ok-read_into.ensures kept app scope polled
