use Rattle.std.proofs.Common.{◌∷◌, [], refl, arith}
use Rattle.rt_model.specs.World.{Freeze}
use Rattle.rt_model.specs.State.{suspense_context}
use Rattle.rt_model.specs.Commands.{frozen_at}
use Rattle.rt_model.specs.Asides.{Asked}
use Rattle.rt_vdom.proofs.Standing.{stands_on}
use Rattle.rt_vdom.proofs.dom.VirtualDom.freeze.Goals as goal

pub returns-in-Ok-clause-frozen : goal.returns-in-Ok-clause-frozen
returns-in-Ok-clause-frozen g c = λ props whole w s.
    let d = c.args.self.now in
    stands_on (λ app. g.A.App.meaning app) (Asked c.args.c.scope.0 w.next (Freeze ∷ [])) (λ x. frozen_at x (suspense_context x c.args.c.scope.0)) d c.freeze_asked.new.self props whole w
    (c.leads.ensures props whole) tt (g.met.A.App.lawful d.app) (record { cells = refl; contexts = refl; tasks = refl; elements = refl; errors = omega arith }) refl c.in-Ok.ensures.frozen s
