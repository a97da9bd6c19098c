use Rattle.run_outside.proofs.Said.{if_ok}
use Rattle.run_machine.proofs.Wrote.{rerun_now}
use Rattle.run_machine.proofs.machine.Machine.rewritten.Goals as goal

pub returns : goal.returns
returns g c = if_ok c.written.result c.written.ensures.written (λ edits are. rerun_now c.args.self.now edits c.args.scope are)
