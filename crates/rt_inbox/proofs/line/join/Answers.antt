use Rattle.rt_inbox.proofs.Keeps.{merges_at}
use Rattle.rt_inbox.proofs.line.join.Goals as goal

pub absorb-requires-clause-rule : goal.absorb-requires-clause-rule
absorb-requires-clause-rule c = merges_at _ _ _ _ c.requires.owns c.requires.posts
