use Rattle.run_outside.proofs.Said.{if_ok}
use Rattle.run_machine.proofs.Wrote.{built_now}
use Rattle.run_machine.proofs.machine.Machine.built.Goals as goal

pub returns : goal.returns
returns g c =
    if_ok c.built.result c.built.ensures.built
    (λ edits are. built_now c.args.self.now edits c.now.result are c.now.ensures.shows)
