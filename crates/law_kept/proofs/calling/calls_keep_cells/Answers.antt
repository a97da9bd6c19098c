use Rattle.law_kept.proofs.Units.{calls_keep_cells}
use Rattle.law_kept.proofs.calling.calls_keep_cells.Goals as goal

pub returns : goal.returns
returns g c = λ k a limits w log edits v. calls_keep_cells _ k a limits w log edits v
