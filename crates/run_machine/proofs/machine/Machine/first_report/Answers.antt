use Rattle.std.proofs.Common.{[], Ok, Err, ap, map}
use Rattle.std.proofs.lemmas.Result.{err_from_is_err_and}
use Rattle.run_reports.specs.Seen.{entry_of, limits_of}
use Rattle.run_machine.proofs.Opening.{building, stands_built, stands_reported}
use Rattle.run_machine.proofs.Reporting.{built_cut, report_wanting}
use Rattle.run_outside.proofs.Sinks.{ends-run}
use Rattle.run_machine.proofs.machine.Machine.first_report.Goals as goal

pub returns-in_err-build-clause-err : goal.returns-in_err-build-clause-err
returns-in_err-build-clause-err g c =
    let p = err_from_is_err_and c.from_residual.result c.from_residual.ensures.1 in rw (p.1, p.2) (ends-run _ _ _ _)

pub returns-in_err-build-clause-reports : goal.returns-in_err-build-clause-reports
returns-in_err-build-clause-reports g c =
    let p = err_from_is_err_and c.from_residual.result c.from_residual.ensures.1 in
    rw (p.1, p.2)
    (
    λ props inputs fresh is.
    built_cut (g.A.App.meaning c.args.app.now) (limits_of c.args.limits) props inputs c.args.self.now c.build.new.self (g.M.WriteMutations.taken c.args.sink.now) c.in_err-build.field-0.0 fresh is
    c.in_err-build.ensures.builds
    )

pub returns-in_err-edits-clause-reports : goal.returns-in_err-edits-clause-reports
returns-in_err-edits-clause-reports g c =
    let p = err_from_is_err_and c.from_residual-in_err-edits.result c.from_residual-in_err-edits.ensures.1 in
    rw (p.1, p.2)
    (
    λ props inputs fresh is.
    let app = g.A.App.meaning c.args.app.now in
    let limits = limits_of c.args.limits in
    c.in_err-edits.ensures.settles (building app limits props inputs) []
    (stands_built app limits props inputs c.args.self.now c.build.new.self fresh is c.in_ok-build.ensures.builds c.build.ensures.first c.build.ensures.others)
    )

pub returns-in_err-report-clause-reports : goal.returns-in_err-report-clause-reports
returns-in_err-report-clause-reports g c =
    let p = err_from_is_err_and c.from_residual-in_err-report.result c.from_residual-in_err-report.ensures.1 in
    rw (p.1, p.2)
    (
    λ props inputs fresh is.
    let app = g.A.App.meaning c.args.app.now in
    let limits = limits_of c.args.limits in
    let going = building app limits props inputs in
    let before = g.M.WriteMutations.taken c.args.sink.now in
    let after = g.M.WriteMutations.taken c.settle.new.sink in
    report_wanting app limits going before after c.in_ok-edits.edits c.settle.new.self c.report.new.self
    (c.in_ok-edits.ensures.settles going []
    (stands_built app limits props inputs c.args.self.now c.build.new.self fresh is c.in_ok-build.ensures.builds c.build.ensures.first c.build.ensures.others))
    )

pub returns-clause-reports : goal.returns-clause-reports
returns-clause-reports g c =
    λ props inputs fresh is.
    let app = g.A.App.meaning c.args.app.now in
    let limits = limits_of c.args.limits in
    let going = building app limits props inputs in
    let before = g.M.WriteMutations.taken c.args.sink.now in
    let after = g.M.WriteMutations.taken c.settle.new.sink in
    let over =
    c.in_ok-edits.ensures.settles going []
    (stands_built app limits props inputs c.args.self.now c.build.new.self fresh is c.in_ok-build.ensures.builds c.build.ensures.first c.build.ensures.others) in
    stands_reported app limits going c.in_ok-report.field-0 before after c.in_ok-edits.edits c.settle.new.self c.report.new.self over c.in_ok-report.ensures.edits
    (ap (λ es. map entry_of es) c.in_ok-report.ensures.log) c.in_ok-report.ensures.default_enabled c.report.ensures.others c.report.ensures.course
