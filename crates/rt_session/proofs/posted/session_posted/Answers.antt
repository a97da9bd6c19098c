-- The headline, and how it ended early, by the law of sessions.
use Rattle.std.proofs.Common.{◌∙◌, map, refl, sym}
use Rattle.rt_model.specs.Merge.{drained}
use Rattle.run_reports.specs.Seen.{limits_of, report_of}
use Rattle.rt_session.specs.Posted.{drains_of}
use Rattle.rt_session.proofs.Held.{came_of, headlined_of, valid_of}
use Rattle.rt_session.proofs.Owning.{err_held, ok_held}
use Rattle.rt_session.proofs.Telling.{breaks_off, fronts_told}
use Rattle.rt_session.proofs.posted.session_posted.Goals as goal

pub returns-in-Ok-clause-headline : goal.returns-in-Ok-clause-headline
returns-in-Ok-clause-headline g c =
    headlined_of (g.A.App.meaning c.args.app) c.laws_of.ensures (g.met.A.App.lawful c.args.app) c.args.root_props (drained (drains_of c.run_posted.new.drains)) (limits_of c.args.limits)
    _ _ _ (ok_held _ _ _ _ _ _ _ _ _ _ c.in-Ok.inbox c.in-Ok.ensures.holds).finished

pub returns-in-Ok-clause-took_all : goal.returns-in-Ok-clause-took_all
returns-in-Ok-clause-took_all g c =
    (ok_held _ _ _ _ _ _ _ _ _ _ c.in-Ok.inbox c.in-Ok.ensures.holds).taken

pub returns-in-Ok-clause-counted : goal.returns-in-Ok-clause-counted
returns-in-Ok-clause-counted g c = (ok_held _ _ _ _ _ _ _ _ _ _ c.in-Ok.inbox c.in-Ok.ensures.holds).counted

pub returns-in-Ok-clause-valid : goal.returns-in-Ok-clause-valid
returns-in-Ok-clause-valid g c =
    valid_of (g.A.App.meaning c.args.app) c.laws_of.ensures (g.met.A.App.lawful c.args.app) c.args.root_props (drained (drains_of c.run_posted.new.drains)) (limits_of c.args.limits)
    _ _ _ (ok_held _ _ _ _ _ _ _ _ _ _ c.in-Ok.inbox c.in-Ok.ensures.holds).finished

pub returns-clause-came_to : goal.returns-clause-came_to
returns-clause-came_to g c = λ fault why.
    came_of (g.A.App.meaning c.args.app) c.laws_of.ensures (g.met.A.App.lawful c.args.app) c.args.root_props (drained (drains_of c.run_posted.new.drains)) (limits_of c.args.limits)
    _ _ _ fault ((err_held _ _ _ _ _ _ _ _ _ _ c.in-Err.ended c.in-Err.ensures.holds).came fault (sym c.fault_for.ensures.of ∙ why))

pub returns-clause-broke_off : goal.returns-clause-broke_off
returns-clause-broke_off g c = λ none.
    let failed = err_held _ _ _ _ _ _ _ _ _ _ c.in-Err.ended c.in-Err.ensures.holds in
    breaks_off (g.A.App.meaning c.args.app) c.args.root_props (drained (drains_of c.run_posted.new.drains)) (limits_of c.args.limits) _ _ (map report_of c.run_posted.new.reports)
    c.in-Err.ended c.fault_for.result c.laws_of.ensures (g.met.A.App.lawful c.args.app) c.fault_for.ensures.parts c.fault_for.ensures.wants (failed.broke (sym c.fault_for.ensures.of ∙ none))

pub returns-clause-took_fronts : goal.returns-clause-took_fronts
returns-clause-took_fronts g c =
    let failed = err_held _ _ _ _ _ _ _ _ _ _ c.in-Err.ended c.in-Err.ensures.holds in
    fronts_told _ _ _ _ c.in-Err.ended _ refl c.fault_for.ensures.wants failed.sized failed.fronts

pub returns-clause-refused : goal.returns-clause-refused
returns-clause-refused g c =
    let e = (err_held _ _ _ _ _ _ _ _ _ _ c.in-Err.ended c.in-Err.ensures.holds).cause in
    c.fault_for.ensures.causes c.args.limits (g.M.WriteMutations.faults c.args.sink.now) (g.M.WriteMutations.faults c.run_posted.new.sink) e.cause

pub returns-clause-counted : goal.returns-clause-counted
returns-clause-counted g c = ((err_held _ _ _ _ _ _ _ _ _ _ c.in-Err.ended c.in-Err.ensures.holds).cause).later

pub returns-clause-completes : goal.returns-clause-completes
returns-clause-completes g c = λ valid.
    c.fault_for.ensures.of ∙ (err_held _ _ _ _ _ _ _ _ _ _ c.in-Err.ended c.in-Err.ensures.holds).valid valid
