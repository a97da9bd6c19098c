-- A number lasts.
use Rattle.examples_router.specs.Sentences.{app}
use Rattle.examples_router.proofs.laws.numbers_stay.Goals as goal

pub returns : goal.returns
returns k = k.numbers_last.ensures app
