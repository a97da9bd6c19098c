use Rattle.std.proofs.Common.{sym}
use Rattle.run_reports.specs.Seen.{limits_of}
use Rattle.run_outside.proofs.Sinks.{took-same}
use Rattle.run_answers.specs.Untils.{until_of}
use Rattle.run_rounds.proofs.Ending.{ran_on, stopped_on}
use Rattle.run_rounds.proofs.running.run_report.Goals as goal

pub returns-in-Ok-clause-runs : goal.returns-in-Ok-clause-runs
returns-in-Ok-clause-runs g c =
    λ props whole w rests led.
    let told = c.report_of.ensures in
    ran_on (g.A.App.meaning c.args.app.now) (limits_of c.args.limits) w (until_of c.args.until) (g.M.WriteMutations.taken c.args.sink.now)
    (g.M.WriteMutations.taken c.begin_and_run.new.sink) c.in-Ok.edits c.report_of.result c.begin_and_run.new.machine c.report_of.new.self
    (c.in-Ok.ensures.runs props whole w rests led) told.log told.edits told.default_enabled told.others told.course

pub returns-in-Ok-clause-took : goal.returns-in-Ok-clause-took
returns-in-Ok-clause-took g c = took-same _ _ _ _ _ _ (sym c.report_of.ensures.edits) c.in-Ok.ensures.ok

pub returns-in-Err-clause-runs : goal.returns-in-Err-clause-runs
returns-in-Err-clause-runs g c =
    λ props whole w rests led.
    let told = c.report_of-told.ensures in
    stopped_on (g.A.App.meaning c.args.app.now) (limits_of c.args.limits) w (until_of c.args.until) (g.M.WriteMutations.taken c.args.sink.now)
    (g.M.WriteMutations.taken c.begin_and_run.new.sink) c.in-Err.ended c.begin_and_run.new.machine c.report_of-told.new.self
    (c.in-Err.ensures.runs props whole w rests led) told.others told.course

pub returns-in-Err-clause-breaks : goal.returns-in-Err-clause-breaks
returns-in-Err-clause-breaks g c = c.in-Err.ensures.breaks
