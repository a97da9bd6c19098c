use Rattle.law_behavior.proofs.Readers.{provides_post_readers}
use Rattle.law_behavior.proofs.reaching.provides_post_readers.Goals as goal

pub returns : goal.returns
returns g c = λ app. provides_post_readers app
