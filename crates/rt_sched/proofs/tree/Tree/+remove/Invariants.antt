use Rattle.std.proofs.Common.{length}
use Rattle.rt_sched.proofs.tree.Tree.+remove.Given as goal

abbrev pub decreases-remove : goal.decreases-remove
decreases-remove l = length l.self
