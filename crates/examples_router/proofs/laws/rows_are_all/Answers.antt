-- So it is of every application.
use Rattle.examples_router.specs.Sentences.{app}
use Rattle.examples_router.proofs.laws.rows_are_all.Goals as goal

pub returns : goal.returns
returns k = k.rows_are_sessions.ensures app
