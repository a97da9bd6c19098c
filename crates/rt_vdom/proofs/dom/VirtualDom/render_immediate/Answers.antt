use Rattle.rt_vdom.proofs.Ran.{once_of}
use Rattle.rt_vdom.proofs.dom.VirtualDom.render_immediate.Goals as goal

pub returns-clause-once : goal.returns-clause-once
returns-clause-once g c =
    once_of (λ app. g.A.App.meaning app) c.args.self.now c.run.new.self c.run.result _ _ (λ app. g.met.A.App.lawful app)
    c.run.ensures.owned c.run.ensures.runs
