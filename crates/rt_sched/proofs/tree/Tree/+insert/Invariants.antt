use Rattle.std.proofs.Common.{length}
use Rattle.rt_sched.proofs.tree.Tree.+insert.Given as goal

abbrev pub decreases-insert : goal.decreases-insert
decreases-insert l = length l.self
