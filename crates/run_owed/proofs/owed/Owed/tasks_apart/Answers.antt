-- As what is owed has it.
use Rattle.std.proofs.Common.{subst}
use Rattle.run_owed.specs.Lists.{EachOnce, numbers_of}
use Rattle.run_owed.specs.Owing.{Owing}
use Rattle.run_owed.proofs.owed.Owed.tasks_apart.Goals as goal

pub returns : goal.returns
returns c = record { apart = subst (λ (p : Owing). EachOnce (numbers_of p.tasks)) c.self.view_is c.self.invariant.owed.tasks_once }
