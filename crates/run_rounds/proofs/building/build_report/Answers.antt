use Rattle.std.proofs.Common.{[], ◌∙◌, sym, ap, map}
use Rattle.std.proofs.lemmas.Result.{err_from_is_err_and}
use Rattle.std.specs.Prelude.{None, Some}
use Rattle.run_reports.specs.Seen.{entry_of, limits_of}
use Rattle.run_outside.proofs.Sinks.{ends-low, ends-run, run-after, took-same}
use Rattle.run_rounds.proofs.Breaks.{breaks_at}
use Rattle.run_state.specs.Mirror.{at_first}
use Rattle.run_rounds.proofs.Given.{given, stands_given, uncounted}
use Rattle.run_rounds.proofs.Ending.{built_on}
use Rattle.run_rounds.proofs.Stopping.{given_stop, given_later, wanting_later}
use Rattle.run_rounds.proofs.building.build_report.Goals as goal

pub returns-in_err-build-clause-err : goal.returns-in_err-build-clause-err
returns-in_err-build-clause-err g c =
    let p = err_from_is_err_and c.from_residual.result c.from_residual.ensures.1 in rw (p.1, p.2) (ends-run _ _ _ _)

pub returns-in_err-edits-clause-err : goal.returns-in_err-edits-clause-err
returns-in_err-edits-clause-err g c =
    let p = err_from_is_err_and c.from_residual-in_err-edits.result c.from_residual-in_err-edits.ensures.1 in
    rw (p.1, p.2) c.in_err-edits.ensures.err

pub returns-in_err-report-clause-err : goal.returns-in_err-report-clause-err
returns-in_err-report-clause-err g c =
    let p = err_from_is_err_and c.from_residual-in_err-report.result c.from_residual-in_err-report.ensures.1 in
    rw (p.1, p.2) (ends-low _ _ _ _ _ _ _ (run-after _ _ _ _ _ _ _ c.in_ok-edits.ensures.ok))

pub returns-clause-took : goal.returns-clause-took
returns-clause-took g c = took-same _ _ _ _ _ _ (sym c.in_ok-report.ensures.edits) c.in_ok-edits.ensures.ok

pub returns-clause-builds : goal.returns-clause-builds
returns-clause-builds g c =
    λ props firsts provided above fresh is uncalled.
    let app = g.A.App.meaning c.args.app.now in
    let lawful = g.met.A.App.lawful c.args.app.now in
    let limits = limits_of c.args.limits in
    let begun = c.build.new.self in
    let told = c.in_ok-report.ensures in
    built_on app lawful limits props firsts provided c.finish.new.calls (g.M.WriteMutations.taken c.args.sink.now) (g.M.WriteMutations.taken c.finish.new.sink) c.in_ok-edits.edits
    c.in_ok-report.field-0 begun c.finish.new.machine c.report.new.self
    (ap (λ d. d.hearing) c.build.ensures.others ∙ fresh.hearing)
    (ap (λ d. d.default_enabled) c.build.ensures.others ∙ fresh.default_enabled)
    (ap (λ d. map entry_of d.course.entries) c.build.ensures.others ∙ ap (λ es. map entry_of es) fresh.course)
    (c.in_ok-edits.ensures.finishes (given app limits props firsts provided (Some 0)) []
    (stands_given app limits props firsts provided (Some c.build.new.calls) above c.args.machine.now begun fresh is c.in_ok-build.ensures.builds c.build.ensures.first c.build.ensures.others
    (c.in_ok-build.ensures.counted at_first (uncounted c.args.calls.now uncalled))))
    (ap (λ es. map entry_of es) told.log) told.edits told.default_enabled c.report.ensures.others c.report.ensures.course

pub returns-in_err-build-clause-cut : goal.returns-in_err-build-clause-cut
returns-in_err-build-clause-cut g c =
    let p = err_from_is_err_and c.from_residual.result c.from_residual.ensures.1 in
    rw (p.1, p.2)
    (
    λ props firsts provided above fresh is.
    given_stop (g.A.App.meaning c.args.app.now) (limits_of c.args.limits) props firsts provided c.args.machine.now c.build.new.self (g.M.WriteMutations.taken c.args.sink.now) c.in_err-build.field-0.0 fresh is
    c.in_err-build.ensures.builds
    )

pub returns-in_err-edits-clause-cut : goal.returns-in_err-edits-clause-cut
returns-in_err-edits-clause-cut g c =
    let p = err_from_is_err_and c.from_residual-in_err-edits.result c.from_residual-in_err-edits.ensures.1 in
    rw (p.1, p.2)
    (
    λ props firsts provided above fresh is.
    let app = g.A.App.meaning c.args.app.now in
    let limits = limits_of c.args.limits in
    let r = given app limits props firsts provided None in
    let stands =
    (stands_given app limits props firsts provided None above c.args.machine.now c.build.new.self fresh is c.in_ok-build.ensures.builds c.build.ensures.first c.build.ensures.others tt) in
    given_later app limits props firsts provided None (g.M.WriteMutations.taken c.args.sink.now) (g.M.WriteMutations.taken c.finish.new.sink) c.in_err-edits.field-0.0 c.build.new.self c.finish.new.machine
    (ap (λ d. map entry_of d.course.entries) c.build.ensures.others ∙ ap (λ es. map entry_of es) fresh.course)
    (c.in_err-edits.ensures.finishes r [] stands) (λ none. c.in_err-edits.ensures.breaks r [] none stands)
    )

pub returns-in_err-report-clause-cut : goal.returns-in_err-report-clause-cut
returns-in_err-report-clause-cut g c =
    let p = err_from_is_err_and c.from_residual-in_err-report.result c.from_residual-in_err-report.ensures.1 in
    rw (p.1, p.2)
    (
    λ props firsts provided above fresh is.
    let app = g.A.App.meaning c.args.app.now in
    let limits = limits_of c.args.limits in
    let r = given app limits props firsts provided None in
    let stands =
    (stands_given app limits props firsts provided None above c.args.machine.now c.build.new.self fresh is c.in_ok-build.ensures.builds c.build.ensures.first c.build.ensures.others tt) in
    let f = c.in_ok-edits.ensures.finishes r [] stands in
    wanting_later app limits props firsts provided None (g.M.WriteMutations.taken c.args.sink.now) (g.M.WriteMutations.taken c.finish.new.sink) c.build.new.self c.finish.new.machine
    (ap (λ d. map entry_of d.course.entries) c.build.ensures.others ∙ ap (λ es. map entry_of es) fresh.course) f.inside
    (breaks_at app (g.met.A.App.lawful c.args.app.now) limits r [] (g.M.WriteMutations.taken c.args.sink.now) (g.M.WriteMutations.taken c.finish.new.sink) c.in_ok-edits.edits c.finish.new.machine f.on)
    )
