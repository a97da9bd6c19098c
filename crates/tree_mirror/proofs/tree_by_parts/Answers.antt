use Rattle.std.proofs.Common.{◌≡◌}
use Rattle.tree_mirror.proofs.tree_by_parts.Goals as goal
use Rattle.tree_mirror.proofs.TreeOut.{tree-out}

-- src/lib.rt:11:1
pub returns : goal.returns
returns g c = λ tree. tree-out tree
