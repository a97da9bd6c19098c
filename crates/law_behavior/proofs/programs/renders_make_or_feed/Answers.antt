use Rattle.law_behavior.proofs.RunsOnce.{renders_make_or_feed}
use Rattle.law_behavior.proofs.programs.renders_make_or_feed.Goals as goal

pub returns : goal.returns
returns g c = λ app. renders_make_or_feed app
