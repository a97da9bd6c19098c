use Rattle.run_outside.proofs.Said.{if_ok}
use Rattle.run_machine.proofs.Wrote.{rerun_until}
use Rattle.run_machine.proofs.machine.Machine.rewritten_until.Goals as goal

pub returns : goal.returns
returns g c =
    if_ok c.written_until.result c.written_until.ensures.written
    (λ edits are. rerun_until c.args.self.now edits c.before-before.result c.now.result c.args.refused.now c.args.scope are c.before-before.ensures.shows c.now.ensures.shows)
