use Rattle.law_lasting.proofs.Finished.{rows_are_sessions}
use Rattle.law_lasting.proofs.finishing.rows_are_sessions.Goals as goal

pub returns : goal.returns
returns g c = λ app props inputs logs told accepted one settled limits taken reports ran. rows_are_sessions app props inputs logs told accepted one settled limits taken reports ran
