-- The build's report is kept, or the session ends there.
use Rattle.std.proofs.Common.{refl}
use Rattle.std.proofs.lemmas.Result.{err_from_is_err_and}
use Rattle.rt_session.proofs.Building.{built_ceases, built_goes, built_wants}
use Rattle.rt_session.proofs.sitting.Sitting.build.Goals as goal

pub returns-in_err-built-clause-takes : goal.returns-in_err-built-clause-takes
returns-in_err-built-clause-takes g c = λ props unbuilt.
    let p = err_from_is_err_and c.from_residual.result c.from_residual.ensures.1 in
    rw (p.1, p.2)
    (built_ceases (g.A.App.meaning c.args.app.now) c.args.limits props _ _ _ _ c.args.self.now _ _ unbuilt c.in_err-built.ensures.reports c.in_err-built.ensures.err refl refl
    c.first_report.new.self.course.later)

pub returns-in_err-push-clause-takes : goal.returns-in_err-push-clause-takes
returns-in_err-push-clause-takes g c = λ props unbuilt.
    let p = err_from_is_err_and c.from_residual-in_err-push.result c.from_residual-in_err-push.ensures.1 in
    rw (p.1, p.2)
    (built_wants (g.A.App.meaning c.args.app.now) c.args.limits props _ _ _ _ c.args.self.now _ c.in_ok-built.built unbuilt c.in_ok-built.ensures.reports c.in_ok-built.ensures.took refl
    c.in_err-push.ensures.err)

pub returns-clause-takes : goal.returns-clause-takes
returns-clause-takes g c = λ props unbuilt.
    built_goes (g.A.App.meaning c.args.app.now) c.args.limits props _ _ _ _ c.args.self.now _ c.in_ok-built.built unbuilt c.in_ok-built.ensures.reports c.in_ok-built.ensures.opens
    c.in_ok-built.ensures.counts c.in_ok-built.ensures.took refl refl c.in_ok-push.ensures.ok
