use Rattle.law_behavior.proofs.Others.{writes_post_only_readers}
use Rattle.law_behavior.proofs.reaching.writes_post_only_readers.Goals as goal

pub returns : goal.returns
returns g c = writes_post_only_readers _
