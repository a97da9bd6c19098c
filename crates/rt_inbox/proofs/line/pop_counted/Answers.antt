use Rattle.rt_inbox.proofs.Keeps.{pops_at, finds_none}
use Rattle.rt_inbox.proofs.line.pop_counted.Goals as goal

pub pop-requires-clause-rule : goal.pop-requires-clause-rule
pop-requires-clause-rule g c = (pops_at _ _ c.requires.owns, finds_none _ _)
