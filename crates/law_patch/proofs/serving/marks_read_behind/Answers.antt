use Rattle.std.proofs.Common.{[]}
use Rattle.law_patch.proofs.Behind.{tree_behind}
use Rattle.law_patch.proofs.serving.marks_read_behind.Goals as goal

pub returns : goal.returns
returns g c = λ app above new old. tree_behind app [] above new old
