use Rattle.std.proofs.Common.{◌∙◌, ap, sym, subst}
use Rattle.std.specs.Prelude.{option_map}
use Rattle.run_reports.specs.Seen.{entry_of}
use Rattle.run_work.specs.Items.{item_of}
use Rattle.run_machine.specs.Writings.{AreUntil}
use Rattle.run_outside.proofs.Said.{if_ok}
use Rattle.run_machine.proofs.Steps.{one_entry}
use Rattle.run_machine.proofs.machine.Machine.caused_until.Goals as goal

pub returns-in-Some : goal.returns-in-Some
returns-in-Some g c =
    if_ok c.caused_by.result c.caused_by.ensures
    (
    λ edits are first is.
    subst (λ f. AreUntil (item_of c.args.refused.now) f c.args.self.now edits)
    (one_entry (entry_of c.in-Some.first) first (sym (ap (λ o. option_map entry_of o) c.in-Some.is) ∙ is)) (λ a l k x r. are a l k x r)
    )
