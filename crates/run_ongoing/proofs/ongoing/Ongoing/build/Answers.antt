-- It is built and awaits the first input, or it ended in the build.
use Rattle.std.proofs.Common.{refl}
use Rattle.std.proofs.lemmas.Result.{err_from_is_err_and}
use Rattle.run_ongoing.proofs.Going.{began, began_none, began_wanting}
use Rattle.run_outside.proofs.Sinks.{ends-run}
use Rattle.run_ongoing.proofs.ongoing.Ongoing.build.Goals as goal

pub returns-in_err-machine-clause-err : goal.returns-in_err-machine-clause-err
returns-in_err-machine-clause-err g c =
    let p = err_from_is_err_and c.from_residual.result c.from_residual.ensures.1 in rw (p.1, p.2) (ends-run _ _ _ _)

pub returns-in_err-machine-clause-begins : goal.returns-in_err-machine-clause-begins
returns-in_err-machine-clause-begins g c =
    let p = err_from_is_err_and c.from_residual.result c.from_residual.ensures.1 in
    rw (p.1, p.2) (began_wanting (λ a. g.A.App.meaning a) c.args.app c.args.limits c.args.root_props (g.M.WriteMutations.taken c.args.sink.now) (g.M.WriteMutations.taken c.args.sink.now))

pub returns-in_err-built-clause-err : goal.returns-in_err-built-clause-err
returns-in_err-built-clause-err g c =
    let p = err_from_is_err_and c.from_residual-in_err-built.result c.from_residual-in_err-built.ensures.1 in rw (p.1, p.2) c.in_err-built.ensures.err

pub returns-in_err-built-clause-begins : goal.returns-in_err-built-clause-begins
returns-in_err-built-clause-begins g c =
    let p = err_from_is_err_and c.from_residual-in_err-built.result c.from_residual-in_err-built.ensures.1 in
    rw (p.1, p.2)
    (began_none (λ a. g.A.App.meaning a) c.args.app c.args.limits c.args.root_props (g.M.WriteMutations.taken c.args.sink.now) (g.M.WriteMutations.taken c.first_report.new.sink)
    _ _ _ c.in_err-built.ensures.reports c.in_ok-machine.ensures.fresh c.in_ok-machine.ensures.state c.first_report.new.self.course.later)

pub returns-clause-begins : goal.returns-clause-begins
returns-clause-begins g c =
    began (λ a. g.A.App.meaning a) c.args.app c.args.limits c.args.root_props (g.M.WriteMutations.taken c.args.sink.now) (g.M.WriteMutations.taken c.first_report.new.sink)
    _ _ c.in_ok-built.built c.in_ok-built.ensures.reports c.in_ok-machine.ensures.fresh c.in_ok-machine.ensures.state c.in_ok-built.ensures.opens c.in_ok-built.ensures.counts refl refl refl
