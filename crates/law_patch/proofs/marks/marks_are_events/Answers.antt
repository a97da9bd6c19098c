use Rattle.run_work.proofs.Eventful.{tree_events}
use Rattle.law_patch.proofs.marks.marks_are_events.Goals as goal

pub returns : goal.returns
returns g c = λ app above new old. tree_events app above new old
