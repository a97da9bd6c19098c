use Rattle.std.proofs.Common.{[]}
use Rattle.law_patch.proofs.Fresh.{tree_fresh}
use Rattle.law_patch.proofs.serving.marks_read_fresh.Goals as goal

pub returns : goal.returns
returns g c = λ app above new old. tree_fresh app [] above new old
