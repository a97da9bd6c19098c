-- A law.
use Rattle.law_minding.proofs.Sessions.{sessions_keep_memos}
use Rattle.law_minding.proofs.laws.sessions_keep_memos.Goals as goal

pub returns : goal.returns
returns g c = λ app a state. sessions_keep_memos a app state (c.wakes_are_polled.ensures app)
