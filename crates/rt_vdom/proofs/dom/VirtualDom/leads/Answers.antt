use Rattle.run_reports.specs.Seen.{limits_of}
use Rattle.rt_vdom.proofs.dom.VirtualDom.leads.Goals as goal

pub returns : goal.returns
returns g c = λ props whole. c.asides_lead.ensures (g.A.App.meaning c.args.self.now.app) (limits_of c.args.self.now.limits) props whole
