use Rattle.rt_scopes.proofs.Nexts.{next_put}
use Rattle.rt_scopes.proofs.scopes.Scopes.after_call.Goals as goal

pub returns-in-Some-clause-next : goal.returns-in-Some-clause-next
returns-in-Some-clause-next g c = next_put c.args.self.now.state c.args.left.next _ _ _ _ _ _ _

pub returns-in-None-clause-next : goal.returns-in-None-clause-next
returns-in-None-clause-next g c = next_put c.args.self.now.state c.args.left.next _ _ _ _ _ _ _
