use Rattle.rt_inbox.proofs.Keeps.{pushes_at}
use Rattle.rt_inbox.proofs.line.push.Goals as goal

pub push_as-requires-clause-rule : goal.push_as-requires-clause-rule
push_as-requires-clause-rule g c = λ n. pushes_at n _ _ c.args.message c.requires.posts c.requires.next
