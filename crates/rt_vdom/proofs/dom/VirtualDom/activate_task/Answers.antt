use Rattle.std.proofs.Common.{◌∷◌, [], refl, arith}
use Rattle.rt_model.specs.Lists.{at}
use Rattle.rt_model.specs.World.{SetActive}
use Rattle.rt_model.specs.Commands.{activated}
use Rattle.rt_model.specs.Asides.{Asked}
use Rattle.rt_vdom.proofs.Standing.{stands_on}
use Rattle.rt_model.proofs.Members.{clash}
use Rattle.rt_vdom.proofs.dom.VirtualDom.activate_task.Goals as goal

pub returns-in-Ok-clause-activated : goal.returns-in-Ok-clause-activated
returns-in-Ok-clause-activated g c = λ props whole w s.
    let d = c.args.self.now in
    stands_on (λ app. g.A.App.meaning app) (Asked 0 w.next (SetActive c.args.task.0 c.args.active ∷ [])) (λ x. activated x c.args.task.0 c.args.active (at x.tasks c.args.task.0)) d c.activate_asked.new.self props whole w
    (c.leads.ensures props whole) tt (g.met.A.App.lawful d.app) (record { cells = refl; contexts = refl; tasks = refl; elements = refl; errors = omega arith }) refl c.in-Ok.ensures.activated s

pub returns-in-Err-clause-refused : goal.returns-in-Err-clause-refused
returns-in-Err-clause-refused g c = clash c.in-Err.ensures.ok refl
