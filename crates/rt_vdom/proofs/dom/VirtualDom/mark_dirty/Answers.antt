use Rattle.std.proofs.Common.{refl}
use Rattle.rt_model.specs.Asides.{Marked}
use Rattle.rt_model.specs.Sentences.{marked_now}
use Rattle.rt_vdom.proofs.Standing.{stands_on}
use Rattle.rt_model.proofs.Members.{clash}
use Rattle.rt_vdom.proofs.dom.VirtualDom.mark_dirty.Goals as goal

pub returns-in-Ok-clause-marked : goal.returns-in-Ok-clause-marked
returns-in-Ok-clause-marked g c = λ props whole w s.
    let d = c.args.self.now in
    stands_on (λ app. g.A.App.meaning app) (Marked c.args.id.0) (λ x. marked_now x c.args.id.0) d c.mark_now.new.self props whole w
    (c.leads.ensures props whole) tt (g.met.A.App.lawful d.app) tt refl c.in-Ok.ensures.marked s

pub returns-in-Err-clause-refused : goal.returns-in-Err-clause-refused
returns-in-Err-clause-refused g c = clash c.in-Err.ensures.ok refl
