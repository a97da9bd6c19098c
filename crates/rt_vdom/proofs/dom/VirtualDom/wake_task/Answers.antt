use Rattle.std.proofs.Common.{◌∷◌, [], refl, arith}
use Rattle.rt_model.specs.World.{Wake}
use Rattle.rt_model.specs.State.{Woken}
use Rattle.rt_model.specs.Commands.{post}
use Rattle.rt_model.specs.Asides.{Asked}
use Rattle.rt_vdom.proofs.Standing.{stands_on}
use Rattle.rt_model.proofs.Members.{clash}
use Rattle.rt_vdom.proofs.dom.VirtualDom.wake_task.Goals as goal

pub returns-in-Ok-clause-woken : goal.returns-in-Ok-clause-woken
returns-in-Ok-clause-woken g c = λ props whole w s.
    let d = c.args.self.now in
    stands_on (λ app. g.A.App.meaning app) (Asked 0 w.next (Wake c.args.task.0 ∷ [])) (λ x. post x (Woken c.args.task.0)) d c.post.new.self props whole w
    (c.leads.ensures props whole) tt (g.met.A.App.lawful d.app) (record { cells = refl; contexts = refl; tasks = refl; elements = refl; errors = omega arith }) refl c.in-Ok.ensures.posted s

pub returns-in-Err-clause-refused : goal.returns-in-Err-clause-refused
returns-in-Err-clause-refused g c = clash c.in-Err.ensures.ok refl
