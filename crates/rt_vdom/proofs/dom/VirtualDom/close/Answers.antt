-- What the removal of all scopes came to.
use Rattle.rt_vdom.proofs.dom.VirtualDom.close.Goals as goal

pub returns-clause-handed : goal.returns-clause-handed
returns-clause-handed g c = c.close_all.ensures.handed

pub returns-clause-failed : goal.returns-clause-failed
returns-clause-failed g c = c.close_all.ensures.failed

pub returns-clause-closed : goal.returns-clause-closed
returns-clause-closed g c = c.close_all.ensures.closed c.args.self.limits

pub returns-clause-caused : goal.returns-clause-caused
returns-clause-caused g c = c.close_all.ensures.caused c.args.self.limits
