-- One report more, or the end of the session.
use Rattle.std.proofs.Common.{◌∷◌, refl}
use Rattle.std.proofs.lemmas.Result.{err_from_is_err_and}
use Rattle.run_reports.specs.Seen.{input_of, limits_of}
use Rattle.run_machine.proofs.Reporting.{runs_wanting, runs_more, runs_more_cut, runs_more_wanting}
use Rattle.run_outside.proofs.Sinks.{took-to, took-ends, run-after}
use Rattle.run_outside.proofs.Reports.{sofar-next, sofar-begins, edits-pushed}
use Rattle.run_machine.proofs.machine.Machine.take_one.Goals as goal

pub returns-in_err-number-clause-steps : goal.returns-in_err-number-clause-steps
returns-in_err-number-clause-steps g c =
    λ props inputs left before runs so.
    let p = err_from_is_err_and c.from_residual.result c.from_residual.ensures.1 in
    rw (p.1, p.2) (
      runs_wanting (g.A.App.meaning c.args.app.now) (limits_of c.args.limits) props inputs c.args.self.now before (g.M.WriteMutations.taken c.args.sink.now) c.args.reports.now (input_of c.args.input ∷ left) c.args.taken runs so,
      sofar-begins _ _ _ _ so,
    )

pub returns-in_err-number-clause-err : goal.returns-in_err-number-clause-err
returns-in_err-number-clause-err g c =
    let p = err_from_is_err_and c.from_residual.result c.from_residual.ensures.1 in
    rw (p.1, p.2) (λ before faults took. run-after c.args.limits _ _ _ _ _ _ took)

pub returns-in_err-report-clause-steps : goal.returns-in_err-report-clause-steps
returns-in_err-report-clause-steps g c =
    λ props inputs left before runs so.
    let p = err_from_is_err_and c.from_residual-in_err-report.result c.from_residual-in_err-report.ensures.1 in
    rw (p.1, p.2) (
      runs_more_cut (g.A.App.meaning c.args.app.now) (limits_of c.args.limits) props inputs c.args.self.now c.next_report.new.self before (g.M.WriteMutations.taken c.args.sink.now) (g.M.WriteMutations.taken c.next_report.new.sink)
          c.args.reports.now c.in_err-report.field-0.0 left (input_of c.args.input) c.args.taken c.in_ok-number.number runs c.in_ok-number.ensures c.in_err-report.ensures.reports c.next_report.new.self.course.later so,
      sofar-begins _ _ _ _ so,
    )

pub returns-in_err-report-clause-err : goal.returns-in_err-report-clause-err
returns-in_err-report-clause-err g c =
    let p = err_from_is_err_and c.from_residual-in_err-report.result c.from_residual-in_err-report.ensures.1 in
    rw (p.1, p.2) (λ before faults took. took-ends c.args.limits _ _ _ _ _ _ _ _ _ took c.in_err-report.ensures.err)

pub returns-in_err-push-clause-steps : goal.returns-in_err-push-clause-steps
returns-in_err-push-clause-steps g c =
    λ props inputs left before runs so.
    let p = err_from_is_err_and c.from_residual-in_err-push.result c.from_residual-in_err-push.ensures.1 in
    rw (p.1, p.2, c.in_err-push.ensures.err) (
      runs_more_wanting (g.A.App.meaning c.args.app.now) (limits_of c.args.limits) props inputs c.args.self.now c.next_report.new.self before (g.M.WriteMutations.taken c.args.sink.now) (g.M.WriteMutations.taken c.next_report.new.sink)
          c.args.reports.now c.in_ok-report.report left (input_of c.args.input) c.args.taken c.in_ok-number.number runs c.in_ok-number.ensures c.in_ok-report.ensures.reports so,
      sofar-begins _ _ _ _ so,
    )

pub returns-in_err-push-clause-err : goal.returns-in_err-push-clause-err
returns-in_err-push-clause-err g c =
    let p = err_from_is_err_and c.from_residual-in_err-push.result c.from_residual-in_err-push.ensures.1 in
    rw (p.1, p.2, c.in_err-push.ensures.err)
    (λ before faults took. took-ends c.args.limits _ _ _ _ _ _ _ _ _ took (run-after c.args.limits _ _ _ _ _ _ c.in_ok-report.ensures.took))

pub returns-clause-steps : goal.returns-clause-steps
returns-clause-steps g c =
    λ props inputs left before runs so. (
      runs_more (g.A.App.meaning c.args.app.now) (limits_of c.args.limits) props inputs c.args.self.now c.next_report.new.self before (g.M.WriteMutations.taken c.args.sink.now) (g.M.WriteMutations.taken c.next_report.new.sink)
          c.args.reports.now c.push.new.self c.in_ok-report.report left (input_of c.args.input) c.args.taken c.in_ok-number.number runs c.in_ok-number.ensures c.in_ok-report.ensures.reports c.in_ok-report.ensures.counts
          c.in_ok-push.ensures.ok,
      sofar-next _ _ _ _ _ _ _ _ _ refl c.in_ok-number.ensures c.in_ok-push.ensures.ok so c.in_ok-report.ensures.opens c.in_ok-report.ensures.counts,
    )

pub returns-clause-took : goal.returns-clause-took
returns-clause-took g c = λ before faults took. took-to _ _ _ _ _ _ _ _ _ (edits-pushed _ _ _ c.in_ok-push.ensures.ok) took c.in_ok-report.ensures.took
