-- By the law of all states to which a program's calls have led.
use Rattle.std.proofs.Common.{[], refl}
use Rattle.rt_model.specs.Asides.{resting}
use Rattle.law_moves.proofs.Settled.{all_are_current_or_owed}
use Rattle.run_reports.specs.Seen.{limits_of}
use Rattle.rt_vdom.proofs.dom.VirtualDom.scopes.Goals as goal

pub returns-clause-current : goal.returns-clause-current
returns-clause-current g c =
    λ props whole w s.
    let d = c.args.self.now in
    all_are_current_or_owed (g.A.App.meaning d.app) (g.met.A.App.lawful d.app) (limits_of d.limits) props [] (resting w) (s.led).reached refl refl refl
