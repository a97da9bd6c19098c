use Rattle.std.proofs.Common.{sym, ap, ◌∙◌}
use Rattle.run_outside.specs.Ends.{fault_in}
use Rattle.rt_vdom.specs.Calls.{spent_in}
use Rattle.rt_vdom.proofs.Failed.{run_unspent}
use Rattle.rt_vdom.proofs.dom.is_spent.Goals as goal

pub returns-in-Run : goal.returns-in-Run
returns-in-Run c = run_unspent c.in-Run._stop ∙ ap (λ e. spent_in (fault_in e)) (sym c.in-Run.is)
