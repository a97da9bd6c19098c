use Rattle.law_behavior.proofs.Readers.{writes_post_readers}
use Rattle.law_behavior.proofs.reaching.writes_post_readers.Goals as goal

pub returns : goal.returns
returns g c = writes_post_readers _
