use Rattle.std.proofs.Common.{◌∷◌, [], refl, arith}
use Rattle.rt_model.specs.World.{RemoveFuture}
use Rattle.rt_model.specs.Commands.{end}
use Rattle.rt_model.specs.Asides.{Asked}
use Rattle.rt_vdom.proofs.Standing.{stands_on}
use Rattle.rt_vdom.proofs.dom.VirtualDom.cancel_task.Goals as goal

pub returns-in-Ok-clause-ended : goal.returns-in-Ok-clause-ended
returns-in-Ok-clause-ended g c = λ props whole w s.
    let d = c.args.self.now in
    stands_on (λ app. g.A.App.meaning app) (Asked 0 w.next (RemoveFuture c.args.task.0 ∷ [])) (λ x. end x c.args.task.0) d c.end.new.self props whole w
    (c.leads.ensures props whole) tt (g.met.A.App.lawful d.app) (record { cells = refl; contexts = refl; tasks = refl; elements = refl; errors = omega arith }) refl c.in-Ok.ensures s
