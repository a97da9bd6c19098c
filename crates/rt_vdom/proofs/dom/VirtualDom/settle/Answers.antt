use Rattle.rt_vdom.proofs.Ran.{settled_of}
use Rattle.rt_vdom.proofs.dom.VirtualDom.settle.Goals as goal

pub returns-clause-settled : goal.returns-clause-settled
returns-clause-settled g c =
    settled_of (λ app. g.A.App.meaning app) c.args.self.now c.run.new.self c.run.result _ _ (λ app. g.met.A.App.lawful app)
    c.run.ensures.owned c.run.ensures.runs
