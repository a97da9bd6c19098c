use Rattle.std.proofs.Common.{◌∙◌, ◌∷◌, [], Ok, Err, ap, map}
use Rattle.std.proofs.lemmas.Result.{err_from_is_err_and}
use Rattle.run_reports.specs.Seen.{entry_of, input_of, limits_of}
use Rattle.run_machine.proofs.Opening.{taking, stands_taken, stands_reported}
use Rattle.run_machine.proofs.Reporting.{report_wanting, taking_wanting}
use Rattle.run_outside.proofs.Sinks.{ends-run}
use Rattle.run_machine.proofs.machine.Machine.next_report.Goals as goal

pub returns-in_err-receive-clause-err : goal.returns-in_err-receive-clause-err
returns-in_err-receive-clause-err g c =
    let p = err_from_is_err_and c.from_residual.result c.from_residual.ensures.1 in rw (p.1, p.2) (ends-run _ _ _ _)

pub returns-in_err-receive-clause-reports : goal.returns-in_err-receive-clause-reports
returns-in_err-receive-clause-reports g c =
    let p = err_from_is_err_and c.from_residual.result c.from_residual.ensures.1 in
    rw (p.1, p.2)
    (
    λ props inputs left taken last is follows.
    taking_wanting (g.A.App.meaning c.args.app.now) (limits_of c.args.limits) props inputs (input_of c.args.input ∷ left) left taken c.args.number last c.args.self.now c.receive.new.self (g.M.WriteMutations.taken c.args.sink.now) follows
    )

pub returns-in_err-edits-clause-reports : goal.returns-in_err-edits-clause-reports
returns-in_err-edits-clause-reports g c =
    let p = err_from_is_err_and c.from_residual-in_err-edits.result c.from_residual-in_err-edits.ensures.1 in
    rw (p.1, p.2)
    (
    λ props inputs left taken last is follows.
    let app = g.A.App.meaning c.args.app.now in
    let limits = limits_of c.args.limits in
    c.in_err-edits.ensures.settles (taking app limits props inputs left c.args.number last) []
    (stands_taken app limits props inputs left (input_of c.args.input) taken c.args.number last c.args.self.now c.receive.new.self is follows
    (λ kept. c.in_ok-receive.ensures.received kept (input_of c.args.input ∷ left) left taken) c.receive.ensures.first c.receive.ensures.work c.receive.ensures.course)
    )

pub returns-in_err-report-clause-reports : goal.returns-in_err-report-clause-reports
returns-in_err-report-clause-reports g c =
    let p = err_from_is_err_and c.from_residual-in_err-report.result c.from_residual-in_err-report.ensures.1 in
    rw (p.1, p.2)
    (
    λ props inputs left taken last is follows.
    let app = g.A.App.meaning c.args.app.now in
    let limits = limits_of c.args.limits in
    let going = taking app limits props inputs left c.args.number last in
    let before = g.M.WriteMutations.taken c.args.sink.now in
    let after = g.M.WriteMutations.taken c.settle.new.sink in
    report_wanting app limits going before after c.in_ok-edits.edits c.settle.new.self c.report.new.self
    (c.in_ok-edits.ensures.settles going []
    (stands_taken app limits props inputs left (input_of c.args.input) taken c.args.number last c.args.self.now c.receive.new.self is follows
    (λ kept. c.in_ok-receive.ensures.received kept (input_of c.args.input ∷ left) left taken) c.receive.ensures.first c.receive.ensures.work c.receive.ensures.course))
    )

pub returns-clause-reports : goal.returns-clause-reports
returns-clause-reports g c =
    λ props inputs left taken last is follows.
    let app = g.A.App.meaning c.args.app.now in
    let limits = limits_of c.args.limits in
    let going = taking app limits props inputs left c.args.number last in
    let before = g.M.WriteMutations.taken c.args.sink.now in
    let after = g.M.WriteMutations.taken c.settle.new.sink in
    let over =
    c.in_ok-edits.ensures.settles going []
    (stands_taken app limits props inputs left (input_of c.args.input) taken c.args.number last c.args.self.now c.receive.new.self is follows
    (λ kept. c.in_ok-receive.ensures.received kept (input_of c.args.input ∷ left) left taken) c.receive.ensures.first c.receive.ensures.work c.receive.ensures.course) in
    stands_reported app limits going c.in_ok-report.field-0 before after c.in_ok-edits.edits c.settle.new.self c.report.new.self over c.in_ok-report.ensures.edits
    (ap (λ es. map entry_of es) c.in_ok-report.ensures.log) c.in_ok-report.ensures.default_enabled c.report.ensures.others c.report.ensures.course
