use Rattle.std.proofs.Common.{[], ◌∙◌, subst}
use Rattle.std.proofs.lemmas.Result.{err_from_is_err_and}
use Rattle.rt_model.specs.Replay.{ones}
use Rattle.run_outside.specs.Ends.{Causes}
use Rattle.law_moves.proofs.Begun.{ones_above}
use Rattle.rt_vdom.proofs.Answered.{started_own, prebuilt_stopped, prebuilt_wanting}
use Rattle.rt_vdom.proofs.dom.VirtualDom.prebuilt.Goals as goal

pub returns-clause-built : goal.returns-clause-built
returns-clause-built g c =
    let app = c.args.app in
    let props = g.A.App.props_of_none app in
    let started = c.in_ok-dom.ensures.started in
    record {
      report = c.in_ok-_report._report;
      built = c.in_ok-_report.ensures.builds props ones [] ones_above (started_own (λ app. g.A.App.meaning app) app props ones [] c.args.limits c.in_ok-dom.dom started);
      owned = c.build.ensures.owned.0 ∙ started.owned;
      limited = c.build.ensures.owned.1 ∙ started.limited;
    }

pub returns-in_err-_report-clause-cause : goal.returns-in_err-_report-clause-cause
returns-in_err-_report-clause-cause g c =
    let p = err_from_is_err_and c.from_residual-in_err-_report.result c.from_residual-in_err-_report.ensures.1 in
    rw (p.1, p.2) (subst (λ limits. Causes limits 0 0 c.in_err-_report.field-0.0) c.in_ok-dom.ensures.started.limited c.in_err-_report.ensures.caused)

-- its build was refused, or memory was wanting before it
pub returns-in_err-_report-clause-stopped : goal.returns-in_err-_report-clause-stopped
returns-in_err-_report-clause-stopped g c =
    let p = err_from_is_err_and c.from_residual-in_err-_report.result c.from_residual-in_err-_report.ensures.1 in
    rw (p.1, p.2)
    (prebuilt_stopped (λ app. g.A.App.meaning app) c.args.app (g.A.App.props_of_none c.args.app) c.args.limits c.in_ok-dom.dom
    c.in_err-_report.field-0.0 c.in_ok-dom.ensures.started c.in_err-_report.ensures.builds)

pub returns-in_err-dom-clause-stopped : goal.returns-in_err-dom-clause-stopped
returns-in_err-dom-clause-stopped g c =
    let p = err_from_is_err_and c.from_residual.result c.from_residual.ensures.1 in
    rw (p.1, p.2)
    (prebuilt_wanting (λ app. g.A.App.meaning app) c.args.app (g.A.App.props_of_none c.args.app) c.args.limits _ c.in_err-dom.ensures.cause)
