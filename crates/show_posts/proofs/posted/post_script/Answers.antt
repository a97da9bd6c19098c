-- A posted session of a script is one of each source that the script is made of.
use Rattle.std.proofs.Common.{◌≡◌, Some, None, map}
use Rattle.std.specs.Prelude.{IfOk, IfErr}
use Rattle.run_outside.specs.Sessions.{CameAt, Headlined}
use Rattle.rt_model.specs.Merge.{ValidOverCuts, drained}
use Rattle.rt_model.specs.State as model
use Rattle.run_reports.specs.Seen.{fault_of, limits_of, report_of, usual}
use Rattle.show_words.proofs.Preparing.{of_source}
use Rattle.show_posts.proofs.posted.post_script.Goals as goal
use Rattle.rt_session.specs.Posted.{drains_of, lists_of}

pub returns-clause-headline : goal.returns-clause-headline
returns-clause-headline g c = λ said inputs made.
    of_source (λ app p i. IfOk c.session_posted.result (λ posted. Headlined app p (drained (drains_of posted.drains)) (limits_of usual) (g.M.WriteMutations.taken c.args.sink.now) (g.M.WriteMutations.taken c.session_posted.new.sink) (map report_of posted.reports)))
    said c.args.script c.args.props inputs made c.session_posted.ensures.headline

pub returns-clause-came_to : goal.returns-clause-came_to
returns-clause-came_to g c = λ said inputs made.
    of_source (λ app p i. IfErr c.session_posted.result (λ refused. (fault : model.Fault) → fault_of refused.fault ≡ Some fault →
    CameAt app p (drained (drains_of refused.drains)) (limits_of usual) (g.M.WriteMutations.taken c.args.sink.now) (g.M.WriteMutations.taken c.session_posted.new.sink) (map report_of refused.reports) fault))
    said c.args.script c.args.props inputs made c.session_posted.ensures.came_to

pub returns-clause-completes : goal.returns-clause-completes
returns-clause-completes g c = λ said inputs made.
    of_source (λ app p i. ValidOverCuts app p (lists_of c.args.posts) (limits_of usual) → IfErr c.session_posted.result (λ refused. fault_of refused.fault ≡ None))
    said c.args.script c.args.props inputs made c.session_posted.ensures.completes
