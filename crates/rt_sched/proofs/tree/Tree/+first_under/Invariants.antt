use Rattle.std.proofs.Common.{length}
use Rattle.rt_sched.proofs.tree.Tree.+first_under.Given as goal

abbrev pub decreases-first_under : goal.decreases-first_under
decreases-first_under l = length l.self.now
