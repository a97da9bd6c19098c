use Rattle.std.proofs.Common.{refl}
use Rattle.rt_model.specs.Asides.{AllMarked}
use Rattle.rt_model.specs.Sentences.{all_marked_now}
use Rattle.rt_vdom.proofs.Standing.{stands_on}
use Rattle.rt_model.proofs.Members.{clash}
use Rattle.rt_vdom.proofs.dom.VirtualDom.mark_all_dirty.Goals as goal

pub returns-in-Ok-clause-marked : goal.returns-in-Ok-clause-marked
returns-in-Ok-clause-marked g c = λ props whole w s.
    let d = c.args.self.now in
    stands_on (λ app. g.A.App.meaning app) AllMarked (λ x. all_marked_now x.scopes x) d c.mark_all_now.new.self props whole w
    (c.leads.ensures props whole) tt (g.met.A.App.lawful d.app) tt refl c.in-Ok.ensures.marked s

pub returns-in-Err-clause-refused : goal.returns-in-Err-clause-refused
returns-in-Err-clause-refused g c = clash c.in-Err.ensures.ok refl
