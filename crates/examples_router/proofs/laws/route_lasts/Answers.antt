-- A cell lasts.
use Rattle.examples_router.specs.Sentences.{app}
use Rattle.examples_router.proofs.laws.route_lasts.Goals as goal

pub returns : goal.returns
returns k = k.cells_last.ensures app
