use Rattle.rt_language.proofs.Formulas.{sources_poll_memos}
use Rattle.rt_language.proofs.laws.sources_poll_memos.Goals as goal

pub returns : goal.returns
returns c = sources_poll_memos
