-- A session of a script is one of each source that the script is made of.
use Rattle.std.proofs.Common.{◌≡◌, Some, map}
use Rattle.std.specs.Prelude.{IfOk, IfErr}
use Rattle.rt_model.specs.State as model
use Rattle.run_reports.specs.Seen.{fault_of, input_of, limits_of, report_of}
use Rattle.run_outside.specs.Sessions.{CameAt, Headlined}
use Rattle.show_words.proofs.Preparing.{of_source}
use Rattle.show_runs.proofs.Runs.{memos_of}
use Rattle.show_runs.proofs.running.run_script.Goals as goal

pub returns-clause-headline : goal.returns-clause-headline
returns-clause-headline g c = λ said made.
    of_source (λ app p i. IfOk c.memo_session.result (λ reports. Headlined app p i (limits_of c.args.limits) (g.M.WriteMutations.taken c.args.sink.now) (g.M.WriteMutations.taken c.memo_session.new.sink) (map report_of reports)))
    said c.args.script c.args.props (map input_of c.args.inputs) made c.memo_session.ensures.headline

pub returns-clause-memos : goal.returns-clause-memos
returns-clause-memos g c = λ said made.
    memos_of c.args.limits said c.args.script c.args.props (map input_of c.args.inputs) c.memo_session.result made c.memo_session.ensures.memos

pub returns-clause-came_to : goal.returns-clause-came_to
returns-clause-came_to g c = λ said made.
    of_source (λ app p i. IfErr c.memo_session.result (λ refused. (fault : model.Fault) → fault_of refused.fault ≡ Some fault →
    CameAt app p i (limits_of c.args.limits) (g.M.WriteMutations.taken c.args.sink.now) (g.M.WriteMutations.taken c.memo_session.new.sink) (map report_of refused.reports) fault))
    said c.args.script c.args.props (map input_of c.args.inputs) made c.memo_session.ensures.came_to
