use Rattle.std.proofs.Common.{true, Some, None, refl, sym, ap, ◌∙◌}
use Rattle.std.proofs.lemmas.Result.{err_from_is_err_and}
use Rattle.run_rounds.proofs.Handling.{raised, far_begun, heard_on, heard_stop}
use Rattle.run_rounds.proofs.hearing.handle.Goals as goal

pub returns-in_err-listeners : goal.returns-in_err-listeners
returns-in_err-listeners g c =
    let p = err_from_is_err_and c.from_residual.result c.from_residual.ensures.1 in rw (p.1, p.2) (record { hears = λ w rests. tt })

pub returns-in_err-hear_all : goal.returns-in_err-hear_all
returns-in_err-hear_all g c =
    let p = err_from_is_err_and c.from_residual-in_err-hear_all.result c.from_residual-in_err-hear_all.ensures.1 in
    rw (p.1, p.2)
    (record {
      hears =
          λ w rests.
          let app = g.A.App.meaning c.args.app.now in
          let e = c.args.event in
          let start = far_begun app w c.args.name.now e c.args.element.0 c.args.machine.now c.in_ok-listeners.listeners rests (c.in_ok-listeners.ensures rests.kept) in
          heard_stop app w c.args.name.now e c.args.element.0 c.hear_all.new.calls c.hear_all.new.machine c.hear_all.new.machine c.in_err-hear_all.field-0.0
          (c.in_err-hear_all.ensures.hears (raised app w c.args.name.now e c.args.element.0) rests.kept start rests.counted);
    })

pub returns-in-Some : goal.returns-in-Some
returns-in-Some g c =
    record {
      hears =
          λ w rests.
          let app = g.A.App.meaning c.args.app.now in
          let e = c.args.event in
          let start = far_begun app w c.args.name.now e c.args.element.0 c.args.machine.now c.in_ok-listeners.listeners rests (c.in_ok-listeners.ensures rests.kept) in
          let over = c.hear_all.new.machine in
          let told = c.report_of-told.new.self in
          let frame = c.report_of-told.ensures.others in
          heard_on app w c.args.name.now e c.args.element.0 c.hear_all.new.calls over (record told { hearing = c.take.new.self }) c.in-Some.heard
          (c.in_ok-hear_all.ensures.hears (raised app w c.args.name.now e c.args.element.0) rests.kept start rests.counted)
          (c.hear_all.ensures.work ∙ (rests.idle).work) (c.hear_all.ensures.first ∙ (rests.idle).first)
          (sym (ap (λ d. d.hearing) frame) ∙ sym c.take.ensures.value ∙ c.in-Some.is)
          (ap (λ d. d.work) frame) (ap (λ d. d.first) frame) c.take.ensures.after c.report_of-told.ensures.course (ap (λ d. d.scopes) frame);
    }
