use Rattle.rt_model.proofs.RowsSay.{rows_hold}
use Rattle.rt_model.proofs.rows.rows_hold.Goals as goal

pub returns : goal.returns
returns c = rows_hold
