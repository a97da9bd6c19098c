-- An event that was handled leads on, and what shows stays.
use Rattle.std.proofs.Common.{◌≡◌, [], sym, ap, ◌∙◌, Ok}
use Rattle.law_behavior.proofs.Doms.{handles_lead}
use Rattle.run_reports.specs.Seen.{limits_of}
use Rattle.rt_model.specs.View.{view}
use Rattle.rt_vdom.proofs.Failed.{no_unit}
use Rattle.rt_vdom.proofs.Ran.{rests_in, one_document, cut_of}
use Rattle.rt_vdom.proofs.Answered.{handles_err}
use Rattle.rt_vdom.proofs.dom.VirtualDom.hear.Goals as goal

pub returns-in-Ok-clause-handles : goal.returns-in-Ok-clause-handles
returns-in-Ok-clause-handles g c =
    λ props whole w s.
    let d = c.args.self.now in
    let lawful = g.met.A.App.lawful d.app in
    let e = c.args.event in
    let ran = c.in-Ok.ensures.hears w (rests_in (λ app. g.A.App.meaning app) props whole w d s) in
    let on =
    handles_lead (g.A.App.meaning d.app) lawful (limits_of d.limits) props whole w c.args.name.now e.payload c.args.element.0 e.propagates e.prevented ran.log [] ran.last
    s.led ((ran.heard).ran (limits_of d.limits)) in
    record {
      log = ran.log;
      last = ran.last;
      heard = ran.heard;
      shows = one_document (view w) (view ran.last.state) on.1;
      stands = record { built = s.built; idle = (ran.rests).idle; kept = (ran.rests).kept; is = (ran.rests).is; counted = (ran.rests).counted; led = on.0 };
    }

pub returns-in-Err-clause-handles : goal.returns-in-Err-clause-handles
returns-in-Err-clause-handles g c =
    λ props whole w s.
    let d = c.args.self.now in
    let e = c.args.event in
    handles_err (λ app. g.A.App.meaning app) props whole w c.args.name.now e c.args.element.0 c.ended.new.self c.ended.result
    (
    λ fault why.
    rw c.ended.ensures.others
    (cut_of (g.A.App.meaning d.app) w c.args.name.now e.payload c.args.element.0 e.propagates e.prevented c.handle.new.calls c.handle.new.machine c.in-Err.stop fault
    (c.in-Err.ensures.hears w (rests_in (λ app. g.A.App.meaning app) props whole w d s)) (sym c.ended.ensures.of ∙ why))
    )

pub returns-in-Err-clause-refused : goal.returns-in-Err-clause-refused
returns-in-Err-clause-refused g c = no_unit c.in-Err.stop c.ended.result c.ended.ensures.ran c.ended.ensures.of

pub returns-in-Err-clause-fails : goal.returns-in-Err-clause-fails
returns-in-Err-clause-fails g c = λ built. c.ended.ensures.fails built

pub returns-in-Err-clause-caused : goal.returns-in-Err-clause-caused
returns-in-Err-clause-caused g c = c.ended.ensures.causes 0 0 tt
