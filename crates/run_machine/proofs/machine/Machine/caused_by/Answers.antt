use Rattle.std.proofs.Common.{sym, subst}
use Rattle.run_reports.specs.Seen.{entry_of}
use Rattle.run_work.specs.Items.{item_of}
use Rattle.run_machine.specs.Writings.{AreUntil}
use Rattle.run_outside.proofs.Said.{if_ok}
use Rattle.run_machine.proofs.machine.Machine.caused_by.Goals as goal

pub returns-in-Rerun : goal.returns-in-Rerun
returns-in-Rerun g c =
    if_ok c.rewritten_until.result c.rewritten_until.ensures
    (λ edits are. subst (λ e. AreUntil (item_of c.args.refused.now) (entry_of e) c.args.self.now edits) (sym c.in-Rerun.is) (λ a l k x r. are a l k x r))
