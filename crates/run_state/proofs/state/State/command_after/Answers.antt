-- A reset and what is read since are left, and any other command is done.
use Rattle.run_state.proofs.Changed.{if_ok}
use Rattle.run_state.proofs.state.State.command_after.Goals as goal

pub returns-in-Reset : goal.returns-in-Reset
returns-in-Reset g c = λ app decides. rw c.in-Reset.is (if_ok c.reset_later.result c.reset_later.ensures (λ later is kept. is kept app c.args.scope c.args.polled))

pub returns-in-ReadInto : goal.returns-in-ReadInto
returns-in-ReadInto g c = λ app decides. rw c.in-ReadInto.is (if_ok c.read_later.result c.read_later.ensures (λ later is kept. is kept app c.args.scope c.args.polled))
