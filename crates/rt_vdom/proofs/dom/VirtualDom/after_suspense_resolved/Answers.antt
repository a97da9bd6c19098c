use Rattle.std.proofs.Common.{◌∷◌, [], refl, arith}
use Rattle.rt_model.specs.World.{Resolved}
use Rattle.rt_model.specs.State.{suspense_context}
use Rattle.rt_model.specs.Commands.{registered}
use Rattle.rt_model.specs.Asides.{Asked}
use Rattle.rt_vdom.proofs.Standing.{stands_on}
use Rattle.rt_vdom.proofs.dom.VirtualDom.after_suspense_resolved.Goals as goal

pub returns-in-Ok-clause-registered : goal.returns-in-Ok-clause-registered
returns-in-Ok-clause-registered g c = λ props whole w s.
    let d = c.args.self.now in
    stands_on (λ app. g.A.App.meaning app) (Asked c.args.c.scope.0 w.next (Resolved c.args.effect ∷ [])) (λ x. registered x c.args.c.scope.0 c.args.effect (suspense_context x c.args.c.scope.0)) d c.register_asked.new.self props whole w
    (c.leads.ensures props whole) tt (g.met.A.App.lawful d.app) (record { cells = refl; contexts = refl; tasks = refl; elements = refl; errors = omega arith }) refl c.in-Ok.ensures.registered s
