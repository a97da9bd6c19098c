use Rattle.std.proofs.Common.{length}
use Rattle.rt_sched.proofs.tree.Tree.+first_after.Given as goal

abbrev pub decreases-first_after : goal.decreases-first_after
decreases-first_after l = length l.self.now
