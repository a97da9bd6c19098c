use Rattle.std.proofs.Common.{None, refl}
use Rattle.std.proofs.lemmas.Result.{err_from_is_err_and}
use Rattle.rt_model.specs.Rendering.{polling_rest}
use Rattle.run_reports.specs.Seen.{limits_of}
use Rattle.law_behavior.proofs.Polls.{polling_leads}
use Rattle.run_outside.proofs.Sinks.{ends-run, ends-caused}
use Rattle.run_rounds.proofs.Suspending.{all_spent}
use Rattle.run_rounds.proofs.Polling.{polling_rests, polled_some, polled_over, polls_begin, polls_more, polls_end, polls_spent, polls_cut}
use Rattle.run_rounds.proofs.suspended.poll_suspended.Goals as goal

pub loop-unit-init : goal.loop-unit-init
loop-unit-init g c = λ props w rests led.
    polls_begin (g.A.App.meaning c.args.app.now) (g.met.A.App.lawful c.args.app.now) (limits_of c.args.limits) props w c.args.machine.now rests led

-- memory was wanting: nothing is said of a fault of the definitions
pub returns-in_err-polling_rest-clause-polls : goal.returns-in_err-polling_rest-clause-polls
returns-in_err-polling_rest-clause-polls g c =
    let p = err_from_is_err_and c.from_residual.result c.from_residual.ensures.1 in
    rw (p.1, p.2) (λ props w rests led fault why. cc)

pub returns-then-not-polls-clause-polls : goal.returns-then-not-polls-clause-polls
returns-then-not-polls-clause-polls g c =
    λ props w rests led.
    let app = g.A.App.meaning c.args.app.now in
    let lawful = g.met.A.App.lawful c.args.app.now in
    let limits = limits_of c.args.limits in
    let h = c.loop-unit.invariant props w rests led in
    let mid = record (c.loop-unit.machine) { scopes = record (c.loop-unit.machine.scopes) { state = c.polling_rest.new.state } } in
    let at = polling_rests h.left c.loop-unit.machine mid h.rests (c.in_ok-polling_rest.ensures.rests (h.rests).kept) refl refl refl refl in
    polls_end app lawful limits props w c.loop-unit.units c.loop-unit.machine mid h
    (polled_over h.left at.kept mid at.is c.polls.result (c.polls.ensures at.kept) c.if-not-polls.true) at

pub loop-unit-preserved : goal.loop-unit-preserved
loop-unit-preserved g c =
    λ props w rests led.
    let app = g.A.App.meaning c.args.app.now in
    let lawful = g.met.A.App.lawful c.args.app.now in
    let limits = limits_of c.args.limits in
    let h = c.loop-unit.invariant props w rests led in
    let mid = record (c.loop-unit.machine) { scopes = record (c.loop-unit.machine.scopes) { state = c.polling_rest.new.state } } in
    let at = polling_rests h.left c.loop-unit.machine mid h.rests (c.in_ok-polling_rest.ensures.rests (h.rests).kept) refl refl refl refl in
    let next = polled_some h.left at.kept mid at.is c.polls.result (c.polls.ensures at.kept) c.if-not-polls.false in
    polls_more app lawful limits props w None None c.loop-unit.units c.in_ok-units.units next.0 c.loop-unit.machine c.one_unit.new.machine h
    c.in_ok-units.ensures.counts.0 c.in_ok-units.ensures.counts.1 next.1
    (c.in_ok-one_unit.ensures.unit props (polling_rest h.left) at (polling_leads app lawful limits props h.left h.led).0)

-- units were spent
pub returns-in_err-units-clause-polls : goal.returns-in_err-units-clause-polls
returns-in_err-units-clause-polls g c =
    let p = err_from_is_err_and c.from_residual-in_err-units.result c.from_residual-in_err-units.ensures.1 in
    rw (p.1, p.2)
    (
    λ props w rests led fault why.
    let app = g.A.App.meaning c.args.app.now in
    let lawful = g.met.A.App.lawful c.args.app.now in
    let limits = limits_of c.args.limits in
    let h = c.loop-unit.invariant props w rests led in
    let mid = record (c.loop-unit.machine) { scopes = record (c.loop-unit.machine.scopes) { state = c.polling_rest.new.state } } in
    let at = polling_rests h.left c.loop-unit.machine mid h.rests (c.in_ok-polling_rest.ensures.rests (h.rests).kept) refl refl refl refl in
    let next = polled_some h.left at.kept mid at.is c.polls.result (c.polls.ensures at.kept) c.if-not-polls.false in
    let spent = c.in_err-units.ensures.spent fault why in
    polls_spent app lawful limits props w c.loop-unit.units next.0 fault c.loop-unit.machine mid h (all_spent c.loop-unit.units limits.units spent.1)
    spent.0 next.1 at
    )

pub returns-in_err-one_unit-clause-polls : goal.returns-in_err-one_unit-clause-polls
returns-in_err-one_unit-clause-polls g c =
    let p = err_from_is_err_and c.from_residual-in_err-one_unit.result c.from_residual-in_err-one_unit.ensures.1 in
    rw (p.1, p.2)
    (
    λ props w rests led fault why.
    let app = g.A.App.meaning c.args.app.now in
    let lawful = g.met.A.App.lawful c.args.app.now in
    let limits = limits_of c.args.limits in
    let h = c.loop-unit.invariant props w rests led in
    let mid = record (c.loop-unit.machine) { scopes = record (c.loop-unit.machine.scopes) { state = c.polling_rest.new.state } } in
    let at = polling_rests h.left c.loop-unit.machine mid h.rests (c.in_ok-polling_rest.ensures.rests (h.rests).kept) refl refl refl refl in
    let next = polled_some h.left at.kept mid at.is c.polls.result (c.polls.ensures at.kept) c.if-not-polls.false in
    polls_cut app lawful limits props w c.one_unit.new.calls None None c.loop-unit.units next.0 fault c.loop-unit.machine c.one_unit.new.machine h
    c.in_ok-units.ensures.counts.1 next.1
    (c.in_err-one_unit.ensures.unit props (polling_rest h.left) at (polling_leads app lawful limits props h.left h.led).0 fault why)
    )

pub returns-clause-polls : goal.returns-clause-polls
returns-clause-polls g c = λ props w rests led fault why. cc

pub returns-in_err-polling_rest-clause-err : goal.returns-in_err-polling_rest-clause-err
returns-in_err-polling_rest-clause-err g c =
    let p = err_from_is_err_and c.from_residual.result c.from_residual.ensures.1 in rw (p.1, p.2) (ends-run _ _ _ _)

pub returns-in_err-units-clause-err : goal.returns-in_err-units-clause-err
returns-in_err-units-clause-err g c =
    let p = err_from_is_err_and c.from_residual-in_err-units.result c.from_residual-in_err-units.ensures.1 in
    rw (p.1, p.2) (ends-caused _ _ _ _ c.in_err-units.ensures.explains)

pub returns-in_err-one_unit-clause-err : goal.returns-in_err-one_unit-clause-err
returns-in_err-one_unit-clause-err g c =
    let p = err_from_is_err_and c.from_residual-in_err-one_unit.result c.from_residual-in_err-one_unit.ensures.1 in
    rw (p.1, p.2) c.in_err-one_unit.ensures.err

pub returns-clause-err : goal.returns-clause-err
returns-clause-err g c = ends-run _ _ _ _
