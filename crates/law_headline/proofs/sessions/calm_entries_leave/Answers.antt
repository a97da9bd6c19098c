use Rattle.law_headline.proofs.Begins.{calm_level}
use Rattle.law_headline.proofs.sessions.calm_entries_leave.Goals as goal

pub returns : goal.returns
returns g c = λ app m e calm t. (calm_level app m e calm).shows t
