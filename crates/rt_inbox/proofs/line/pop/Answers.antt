use Rattle.rt_inbox.proofs.Keeps.{pops_at, finds_none}
use Rattle.rt_inbox.proofs.line.pop.Goals as goal

pub pop_as-requires-clause-rule : goal.pop_as-requires-clause-rule
pop_as-requires-clause-rule g c = (pops_at _ _ c.requires.owns, finds_none _ _)
