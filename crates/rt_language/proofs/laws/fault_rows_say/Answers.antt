use Rattle.rt_language.proofs.RowsSay.{fault_rows_say}
use Rattle.rt_language.proofs.laws.fault_rows_say.Goals as goal

pub returns : goal.returns
returns c = fault_rows_say
