use Rattle.std.proofs.Common.{◌∷◌, [], refl, arith}
use Rattle.rt_model.specs.World.{Write}
use Rattle.rt_model.specs.Commands.{write_cell}
use Rattle.rt_model.specs.Asides.{Asked}
use Rattle.rt_vdom.proofs.Standing.{stands_on}
use Rattle.rt_vdom.proofs.dom.VirtualDom.write.Goals as goal

pub returns-in-Ok-clause-wrote : goal.returns-in-Ok-clause-wrote
returns-in-Ok-clause-wrote g c = λ props whole w s.
    let d = c.args.self.now in
    stands_on (λ app. g.A.App.meaning app) (Asked 0 w.next (Write c.args.cell c.args.value ∷ [])) (λ x. write_cell x c.args.cell c.args.value) d c.write_cell.new.self props whole w
    (c.leads.ensures props whole) tt (g.met.A.App.lawful d.app) (record { cells = refl; contexts = refl; tasks = refl; elements = refl; errors = omega arith }) refl c.in-Ok.ensures s
