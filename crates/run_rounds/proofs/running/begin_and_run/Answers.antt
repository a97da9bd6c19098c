use Rattle.std.proofs.Common.{true, ◌∙◌, refl, ap, map}
use Rattle.std.proofs.lemmas.Result.{err_from_is_err_and}
use Rattle.std.specs.Prelude.{Some}
use Rattle.rt_model.specs.Next.{look}
use Rattle.run_reports.specs.Seen.{entry_of, limits_of}
use Rattle.run_outside.proofs.Sinks.{ends-low, ends-run, run-after}
use Rattle.run_answers.specs.Untils.{until_of}
use Rattle.run_rounds.proofs.Breaks.{wanting}
use Rattle.run_rounds.proofs.Broken.{breaks_by, broke_look, call_broke}
use Rattle.run_rounds.proofs.Reporting.{going_from, begins}
use Rattle.run_rounds.proofs.Ending.{went_to, went_up_to}
use Rattle.run_rounds.proofs.running.begin_and_run.Goals as goal

pub returns-in_err-look-clause-err : goal.returns-in_err-look-clause-err
returns-in_err-look-clause-err g c =
    let p = err_from_is_err_and c.from_residual.result c.from_residual.ensures.1 in rw (p.1, p.2) (ends-run _ _ _ _)

-- memory was wanting: nothing is said of a fault of the definitions
pub returns-in_err-look-clause-runs : goal.returns-in_err-look-clause-runs
returns-in_err-look-clause-runs g c =
    let p = err_from_is_err_and c.from_residual.result c.from_residual.ensures.1 in rw (p.1, p.2) (λ props whole w rests led fault why. cc)

pub returns-in_err-edits-clause-err : goal.returns-in_err-edits-clause-err
returns-in_err-edits-clause-err g c =
    let p = err_from_is_err_and c.from_residual-in_err-edits.result c.from_residual-in_err-edits.ensures.1 in
    rw (p.1, p.2) c.in_err-edits.ensures.err

pub returns-in_err-edits-clause-runs : goal.returns-in_err-edits-clause-runs
returns-in_err-edits-clause-runs g c =
    let p = err_from_is_err_and c.from_residual-in_err-edits.result c.from_residual-in_err-edits.ensures.1 in
    rw (p.1, p.2)
    (
    λ props whole w rests led.
    let app = g.A.App.meaning c.args.app.now in
    let lawful = g.met.A.App.lawful c.args.app.now in
    let limits = limits_of c.args.limits in
    let old = c.args.machine.now in
    let begun = record old { units = 0; default_enabled = true; scopes = record (old.scopes) { state = c.look.new.self } } in
    let idle = rests.idle in
    let stands =
    begins app lawful limits props whole w c.args.calls.now begun idle.work idle.hearing idle.first idle.course refl refl rests.kept
    (c.in_ok-look.ensures.looked rests.kept ∙ ap (λ x. look x) rests.is) rests.counted led in
    went_up_to app lawful limits props whole w c.run.new.calls (until_of c.args.until) (g.M.WriteMutations.taken c.args.sink.now) (g.M.WriteMutations.taken c.run.new.sink)
    c.in_err-edits.field-0.0 begun c.run.new.machine (ap (λ es. map entry_of es) idle.course) idle.hearing
    (c.in_err-edits.ensures.runs (going_from props w (Some 0)) stands)
    )

pub returns-in_err-leave-clause-err : goal.returns-in_err-leave-clause-err
returns-in_err-leave-clause-err g c =
    let p = err_from_is_err_and c.from_residual-in_err-leave.result c.from_residual-in_err-leave.ensures.1 in
    rw (p.1, p.2) (ends-low _ _ _ _ _ _ _ (run-after _ _ _ _ _ _ _ c.in_ok-edits.ensures.ok))

pub returns-in_err-leave-clause-runs : goal.returns-in_err-leave-clause-runs
returns-in_err-leave-clause-runs g c =
    let p = err_from_is_err_and c.from_residual-in_err-leave.result c.from_residual-in_err-leave.ensures.1 in
    rw (p.1, p.2) (λ props whole w rests led fault why. cc)

pub returns-clause-runs : goal.returns-clause-runs
returns-clause-runs g c =
    λ props whole w rests led.
    let app = g.A.App.meaning c.args.app.now in
    let lawful = g.met.A.App.lawful c.args.app.now in
    let limits = limits_of c.args.limits in
    let old = c.args.machine.now in
    let begun = record old { units = 0; default_enabled = true; scopes = record (old.scopes) { state = c.look.new.self } } in
    let went = c.run.new.machine in
    let left = record went { scopes = record (went.scopes) { state = c.leave.new.state } } in
    let idle = rests.idle in
    let stands =
    begins app lawful limits props whole w c.args.calls.now begun idle.work idle.hearing idle.first idle.course refl refl rests.kept
    (c.in_ok-look.ensures.looked rests.kept ∙ ap (λ x. look x) rests.is) rests.counted led in
    went_to app lawful limits props whole w c.run.new.calls (until_of c.args.until) (g.M.WriteMutations.taken c.args.sink.now) (g.M.WriteMutations.taken c.run.new.sink)
    c.in_ok-edits.edits begun went left (ap (λ es. map entry_of es) idle.course) idle.hearing refl
    (c.in_ok-edits.ensures.runs (going_from props w (Some 0)) stands)
    (record { work = refl; hearing = refl; first = refl; logged = refl; enabled = refl })
    (λ kept. c.in_ok-leave.ensures kept)

pub returns-in_err-look-clause-breaks : goal.returns-in_err-look-clause-breaks
returns-in_err-look-clause-breaks g c =
    let p = err_from_is_err_and c.from_residual.result c.from_residual.ensures.1 in
    rw (p.1, p.2)
    (λ props whole w none rests led. broke_look (g.A.App.meaning c.args.app.now) (limits_of c.args.limits) w (until_of c.args.until) (g.M.WriteMutations.taken c.args.sink.now))

pub returns-in_err-edits-clause-breaks : goal.returns-in_err-edits-clause-breaks
returns-in_err-edits-clause-breaks g c =
    let p = err_from_is_err_and c.from_residual-in_err-edits.result c.from_residual-in_err-edits.ensures.1 in
    rw (p.1, p.2)
    (
    λ props whole w none rests led.
    let app = g.A.App.meaning c.args.app.now in
    let lawful = g.met.A.App.lawful c.args.app.now in
    let limits = limits_of c.args.limits in
    let old = c.args.machine.now in
    let begun = record old { units = 0; default_enabled = true; scopes = record (old.scopes) { state = c.look.new.self } } in
    let idle = rests.idle in
    let stands =
    begins app lawful limits props whole w c.args.calls.now begun idle.work idle.hearing idle.first idle.course refl refl rests.kept
    (c.in_ok-look.ensures.looked rests.kept ∙ ap (λ x. look x) rests.is) rests.counted led in
    call_broke app lawful limits props w (Some c.run.new.calls) (until_of c.args.until) (g.M.WriteMutations.taken c.args.sink.now) (g.M.WriteMutations.taken c.run.new.sink) c.in_err-edits.field-0.0
    begun (ap (λ es. map entry_of es) idle.course) idle.hearing
    (c.in_err-edits.ensures.breaks (going_from props w (Some 0)) none stands)
    )

pub returns-in_err-leave-clause-breaks : goal.returns-in_err-leave-clause-breaks
returns-in_err-leave-clause-breaks g c =
    let p = err_from_is_err_and c.from_residual-in_err-leave.result c.from_residual-in_err-leave.ensures.1 in
    rw (p.1, p.2)
    (
    λ props whole w none rests led.
    let app = g.A.App.meaning c.args.app.now in
    let lawful = g.met.A.App.lawful c.args.app.now in
    let limits = limits_of c.args.limits in
    let old = c.args.machine.now in
    let begun = record old { units = 0; default_enabled = true; scopes = record (old.scopes) { state = c.look.new.self } } in
    let idle = rests.idle in
    let stands =
    begins app lawful limits props whole w c.args.calls.now begun idle.work idle.hearing idle.first idle.course refl refl rests.kept
    (c.in_ok-look.ensures.looked rests.kept ∙ ap (λ x. look x) rests.is) rests.counted led in
    call_broke app lawful limits props w (Some c.run.new.calls) (until_of c.args.until) (g.M.WriteMutations.taken c.args.sink.now) (g.M.WriteMutations.taken c.run.new.sink) wanting
    begun (ap (λ es. map entry_of es) idle.course) idle.hearing
    (breaks_by app lawful limits (going_from props w (Some c.run.new.calls)) (until_of c.args.until) (g.M.WriteMutations.taken c.args.sink.now) (g.M.WriteMutations.taken c.run.new.sink) c.in_ok-edits.edits begun c.run.new.machine
    (c.in_ok-edits.ensures.runs (going_from props w (Some 0)) stands))
    )
