-- The machine that is started takes all.
use Rattle.std.proofs.Common.{map}
use Rattle.std.proofs.lemmas.Result.{err_from_is_err_and}
use Rattle.run_reports.specs.Seen.{input_of, limits_of}
use Rattle.run_machine.proofs.Reporting.{runs_none_wanting}
use Rattle.run_outside.proofs.Sinks.{ends-run}
use Rattle.rt_session.proofs.runner.run_all.Goals as goal

pub returns-in_err-machine-clause-err : goal.returns-in_err-machine-clause-err
returns-in_err-machine-clause-err g c =
    let p = err_from_is_err_and c.from_residual.result c.from_residual.ensures.1 in
    rw (p.1, p.2, c.requires.empty) (ends-run c.args.limits _ _ _)

pub returns-in_err-machine-clause-runs : goal.returns-in_err-machine-clause-runs
returns-in_err-machine-clause-runs g c =
    let p = err_from_is_err_and c.from_residual.result c.from_residual.ensures.1 in
    rw (p.1, p.2)
    (runs_none_wanting (g.A.App.meaning c.args.app.now) (limits_of c.args.limits) c.args.root_props (map input_of c.args.inputs) (g.M.WriteMutations.taken c.args.sink.now) c.args.reports.now c.requires.empty)

pub run_on-requires : goal.run_on-requires
run_on-requires g c = record { empty = c.requires.empty }

pub returns-clause-took : goal.returns-clause-took
returns-clause-took g c = c.run_on.ensures.took

pub returns-clause-err : goal.returns-clause-err
returns-clause-err g c = c.run_on.ensures.err

pub returns-clause-runs : goal.returns-clause-runs
returns-clause-runs g c = c.run_on.ensures.runs c.args.root_props c.in_ok-machine.ensures.fresh c.in_ok-machine.ensures.state
