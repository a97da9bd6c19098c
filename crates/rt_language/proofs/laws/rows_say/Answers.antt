use Rattle.rt_language.proofs.RowsSay.{rows_say}
use Rattle.rt_language.proofs.laws.rows_say.Goals as goal

pub returns : goal.returns
returns c = rows_say
