-- A pair that was put is there, and no other.
use Rattle.std.proofs.Common.{◌∙◌}
use Rattle.rt_cells.proofs.LinkSteps.{on_err}
use Rattle.run_state.proofs.ranks.Ranks.insert.Goals as goal

pub returns-in_err-insert-clause-err : goal.returns-in_err-insert-clause-err
returns-in_err-insert-clause-err c = on_err c.from_residual.result (c.in_err-insert.ensures.err ∙ c.self.view_is)

pub returns-clause-joined : goal.returns-clause-joined
returns-clause-joined c = λ h n. rw (← c.self.view_is) (c.in_ok-insert.ensures.updates.0 (h, n))
