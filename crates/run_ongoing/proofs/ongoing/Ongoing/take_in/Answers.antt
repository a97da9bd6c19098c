-- One input more, or the end of the session.
use Rattle.std.proofs.Common.{refl}
use Rattle.std.proofs.lemmas.Result.{err_from_is_err_and}
use Rattle.run_ongoing.proofs.Going.{ended_there, taken_in, unnumbered}
use Rattle.run_outside.proofs.Sinks.{ends-run}
use Rattle.run_reports.specs.Seen.{input_of}
use Rattle.run_ongoing.proofs.ongoing.Ongoing.take_in.Goals as goal

pub returns-in_err-number-clause-err : goal.returns-in_err-number-clause-err
returns-in_err-number-clause-err g c =
    let p = err_from_is_err_and c.from_residual.result c.from_residual.ensures.1 in rw (p.1, p.2) (ends-run _ _ _ _)

pub returns-in_err-number-clause-takes : goal.returns-in_err-number-clause-takes
returns-in_err-number-clause-takes g c = λ app limits props inputs before now after reports awaits carries.
    let p = err_from_is_err_and c.from_residual.result c.from_residual.ensures.1 in
    rw (p.1, p.2) (unnumbered (λ a. g.A.App.meaning a) app limits props inputs (input_of c.args.input) before now after reports c.args.self.now _ awaits carries)

pub returns-in_err-report-clause-err : goal.returns-in_err-report-clause-err
returns-in_err-report-clause-err g c =
    let p = err_from_is_err_and c.from_residual-in_err-report.result c.from_residual-in_err-report.ensures.1 in rw (p.1, p.2) c.in_err-report.ensures.err

pub returns-in_err-report-clause-takes : goal.returns-in_err-report-clause-takes
returns-in_err-report-clause-takes g c = λ app limits props inputs before now after reports awaits carries.
    let p = err_from_is_err_and c.from_residual-in_err-report.result c.from_residual-in_err-report.ensures.1 in
    rw (p.1, p.2)
    (ended_there (λ a. g.A.App.meaning a) app limits props inputs (input_of c.args.input) before now after reports c.args.self.now c.next_report.new.self c.in_ok-number.number _ _ _
    awaits carries c.in_err-report.ensures.reports c.in_ok-number.ensures c.next_report.new.self.course.later)

pub returns-clause-takes : goal.returns-clause-takes
returns-clause-takes g c = λ app limits props inputs before now after reports awaits carries.
    taken_in (λ a. g.A.App.meaning a) app limits props inputs (input_of c.args.input) before now after reports c.args.self.now _ c.in_ok-report.report _ _
    awaits carries c.in_ok-report.ensures.reports c.in_ok-number.ensures c.in_ok-report.ensures.opens c.in_ok-report.ensures.counts refl refl
