use Rattle.std.proofs.Common.{sym, subst}
use Rattle.run_reports.specs.Seen.{entry_of}
use Rattle.run_machine.specs.Writings.{AreCausedNow}
use Rattle.run_outside.proofs.Said.{if_ok}
use Rattle.run_machine.proofs.machine.Machine.caused.Goals as goal

pub returns-in-Build : goal.returns-in-Build
returns-in-Build g c =
    if_ok c.built.result c.built.ensures
    (λ edits are. subst (λ e. AreCausedNow (entry_of e) c.args.self.now edits) (sym c.in-Build.is) (λ app lawful kept w remembers orderly. are app lawful kept w remembers orderly))

pub returns-in-Rerun : goal.returns-in-Rerun
returns-in-Rerun g c =
    if_ok c.rewritten.result c.rewritten.ensures
    (λ edits are. subst (λ e. AreCausedNow (entry_of e) c.args.self.now edits) (sym c.in-Rerun.is) (λ app lawful kept w remembers orderly. are app lawful kept w remembers orderly))
