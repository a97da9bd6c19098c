-- So it is of all pages.
use Rattle.examples_list.specs.Meaning.{answers, keeping}
use Rattle.examples_list.proofs.laws.heard_in_turn.Goals as goal

pub returns : goal.returns
returns k = k.events_update.ensures keeping answers
