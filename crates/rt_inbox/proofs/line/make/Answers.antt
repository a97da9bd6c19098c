use Rattle.rt_inbox.proofs.Keeps.{forks_at}
use Rattle.rt_inbox.proofs.line.make.Goals as goal

pub another-requires-clause-rule : goal.another-requires-clause-rule
another-requires-clause-rule c = forks_at _ _ c.requires.owns
