-- So it is of every application.
use Rattle.examples_router.specs.Sentences.{app}
use Rattle.examples_router.proofs.laws.sessions_agree.Goals as goal

pub returns : goal.returns
returns k = k.one_finish.ensures app
