-- The whole, over a session that isn't built.
use Rattle.std.proofs.lemmas.Result.{err_from_is_err_and}
use Rattle.rt_session.proofs.Failing.{failed_first}
use Rattle.rt_session.proofs.Owning.{held_err}
use Rattle.rt_session.proofs.posted.run_posted.Goals as goal

pub returns-in_err-sitting : goal.returns-in_err-sitting
returns-in_err-sitting g c =
    record {
      holds =
          let p = err_from_is_err_and c.from_residual.result c.from_residual.ensures.1 in
          rw (p.1, p.2)
          (held_err (g.A.App.meaning c.args.app.now) c.args.limits c.args.root_props c.args.posts.now _ _ _ _ c.args.drains.now c.args.reports.now _
          (failed_first (g.A.App.meaning c.args.app.now) c.args.limits c.args.root_props c.args.posts.now (g.M.WriteMutations.taken c.args.sink.now) (g.M.WriteMutations.faults c.args.sink.now)
          c.args.drains.now c.args.reports.now c.requires.empty.0 c.requires.empty.1));
    }

pub returns : goal.returns
returns g c = record { holds = c.hold-held.ensures.holds c.args.root_props c.in_ok-sitting.ensures.unbuilt }
