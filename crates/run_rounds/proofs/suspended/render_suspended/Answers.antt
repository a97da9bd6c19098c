use Rattle.std.proofs.Common.{Bool, true, false, not, [], ◌≡◌, refl, sym, ap, ◌∙◌}
use Rattle.std.proofs.lemmas.Result.{err_from_is_err_and}
use Rattle.rt_model.specs.Rendering.{rendering_rest, resolved_by_height}
use Rattle.run_reports.specs.Seen.{limits_of}
use Rattle.run_outside.proofs.Parts.{part_none}
use Rattle.run_outside.proofs.Sinks.{took-none, took-more, took-ends, ends-low, caused-after, run-after}
use Rattle.run_rounds.proofs.Breaks.{wanting}
use Rattle.run_rounds.proofs.Units.{passed_rests, found_some, found_none, answered_rests}
use Rattle.run_rounds.proofs.Suspending.{passed_led, all_spent, render_none, render_more, render_ends, render_spent, render_cut, render_halts, render_broke}
use Rattle.run_rounds.proofs.suspended.render_suspended.Goals as goal

-- the other way round
flip : (b s : Bool) → s ≡ not b → b ≡ not s
flip true s is = ap not (sym is)
flip false s is = ap not (sym is)

pub loop-unit-init : goal.loop-unit-init
loop-unit-init g c =
    record {
      took = (0, took-none (g.M.WriteMutations.taken c.args.sink.now) (g.M.WriteMutations.faults c.args.sink.now));
      on =
          λ props w rests led.
          render_none (g.A.App.meaning c.args.app.now) (g.met.A.App.lawful c.args.app.now) (limits_of c.args.limits) props w
          (g.M.WriteMutations.taken c.args.sink.now) c.args.machine.now rests led;
    }

-- memory was wanting: nothing is said of a fault of the definitions
pub returns-in_err-rendering_rest-clause-renders : goal.returns-in_err-rendering_rest-clause-renders
returns-in_err-rendering_rest-clause-renders g c =
    let p = err_from_is_err_and c.from_residual.result c.from_residual.ensures.1 in
    rw (p.1, p.2) (λ props w rests led fault why. cc)

pub returns-then-is_none-clause-renders : goal.returns-then-is_none-clause-renders
returns-then-is_none-clause-renders g c =
    λ props w rests led.
    let app = g.A.App.meaning c.args.app.now in
    let lawful = g.met.A.App.lawful c.args.app.now in
    let limits = limits_of c.args.limits in
    let h = c.loop-unit.invariant.on props w rests led in
    let mid = record (c.loop-unit.machine) { scopes = record (c.loop-unit.machine.scopes) { state = c.rendering_rest.new.state } } in
    let at = passed_rests h.left c.loop-unit.machine mid h.rests (c.in_ok-rendering_rest.ensures.rests (h.rests).kept) refl refl refl refl in
    let new = record mid { scopes = record (mid.scopes) { state = c.take_resolved.new.state } } in
    render_ends app lawful limits props w (g.M.WriteMutations.taken c.args.sink.now) (g.M.WriteMutations.taken c.loop-unit.sink) c.loop-unit.units
    c.in_ok-take_resolved.field-0 c.loop-unit.machine new h
    (found_none h.left at.kept mid at.is c.found.result (c.found.ensures at.kept) c.is_none.result (flip c.is_none.result _ c.is_none.ensures) c.if-is_none.true)
    (c.in_ok-take_resolved.ensures.resolved at.kept ∙ ap (λ x. resolved_by_height x) at.is)
    (answered_rests h.left mid new at (c.in_ok-take_resolved.ensures.taken at.kept) refl refl refl refl)

pub loop-unit-preserved : goal.loop-unit-preserved
loop-unit-preserved g c =
    record {
      took = (_, took-more _ _ _ _ _ _ _ _ c.loop-unit.invariant.took.1 c.in_ok-one_unit.ensures.ok.1);
      on =
          λ props w rests led.
          let app = g.A.App.meaning c.args.app.now in
          let lawful = g.met.A.App.lawful c.args.app.now in
          let limits = limits_of c.args.limits in
          let h = c.loop-unit.invariant.on props w rests led in
          let mid = record (c.loop-unit.machine) { scopes = record (c.loop-unit.machine.scopes) { state = c.rendering_rest.new.state } } in
          let at = passed_rests h.left c.loop-unit.machine mid h.rests (c.in_ok-rendering_rest.ensures.rests (h.rests).kept) refl refl refl refl in
          let next = found_some h.left at.kept mid at.is c.found.result (c.found.ensures at.kept) c.is_none.result (flip c.is_none.result _ c.is_none.ensures) c.if-is_none.false in
          render_more app lawful limits props w (g.M.WriteMutations.taken c.args.sink.now) (g.M.WriteMutations.taken c.loop-unit.sink) (g.M.WriteMutations.taken c.one_unit.new.sink)
          c.loop-unit.units c.in_ok-units.units next.0 c.loop-unit.machine c.one_unit.new.machine h c.in_ok-units.ensures.counts.0 c.in_ok-units.ensures.counts.1 next.1
          (c.in_ok-one_unit.ensures.unit props (rendering_rest h.left) at (passed_led app lawful limits props w h.left h.led));
    }

pub returns-in_err-take_resolved-clause-renders : goal.returns-in_err-take_resolved-clause-renders
returns-in_err-take_resolved-clause-renders g c =
    let p = err_from_is_err_and c.from_residual-in_err-take_resolved.result c.from_residual-in_err-take_resolved.ensures.1 in
    rw (p.1, p.2) (λ props w rests led fault why. cc)

-- units were spent
pub returns-in_err-units-clause-renders : goal.returns-in_err-units-clause-renders
returns-in_err-units-clause-renders g c =
    let p = err_from_is_err_and c.from_residual-in_err-units.result c.from_residual-in_err-units.ensures.1 in
    rw (p.1, p.2)
    (
    λ props w rests led fault why.
    let app = g.A.App.meaning c.args.app.now in
    let lawful = g.met.A.App.lawful c.args.app.now in
    let limits = limits_of c.args.limits in
    let h = c.loop-unit.invariant.on props w rests led in
    let mid = record (c.loop-unit.machine) { scopes = record (c.loop-unit.machine.scopes) { state = c.rendering_rest.new.state } } in
    let at = passed_rests h.left c.loop-unit.machine mid h.rests (c.in_ok-rendering_rest.ensures.rests (h.rests).kept) refl refl refl refl in
    let next = found_some h.left at.kept mid at.is c.found.result (c.found.ensures at.kept) c.is_none.result (flip c.is_none.result _ c.is_none.ensures) c.if-is_none.false in
    let spent = c.in_err-units.ensures.spent fault why in
    render_spent app lawful limits props w (g.M.WriteMutations.taken c.args.sink.now) (g.M.WriteMutations.taken c.loop-unit.sink) c.loop-unit.units next.0 fault
    c.loop-unit.machine mid h (all_spent c.loop-unit.units limits.units spent.1) spent.0 next.1 at
    )

pub returns-in_err-one_unit-clause-renders : goal.returns-in_err-one_unit-clause-renders
returns-in_err-one_unit-clause-renders g c =
    let p = err_from_is_err_and c.from_residual-in_err-one_unit.result c.from_residual-in_err-one_unit.ensures.1 in
    rw (p.1, p.2)
    (
    λ props w rests led fault why.
    let app = g.A.App.meaning c.args.app.now in
    let lawful = g.met.A.App.lawful c.args.app.now in
    let limits = limits_of c.args.limits in
    let h = c.loop-unit.invariant.on props w rests led in
    let mid = record (c.loop-unit.machine) { scopes = record (c.loop-unit.machine.scopes) { state = c.rendering_rest.new.state } } in
    let at = passed_rests h.left c.loop-unit.machine mid h.rests (c.in_ok-rendering_rest.ensures.rests (h.rests).kept) refl refl refl refl in
    let next = found_some h.left at.kept mid at.is c.found.result (c.found.ensures at.kept) c.is_none.result (flip c.is_none.result _ c.is_none.ensures) c.if-is_none.false in
    render_cut app lawful limits props w c.one_unit.new.calls (g.M.WriteMutations.taken c.args.sink.now) (g.M.WriteMutations.taken c.loop-unit.sink) (g.M.WriteMutations.taken c.one_unit.new.sink)
    c.loop-unit.units next.0 fault c.loop-unit.machine c.one_unit.new.machine h c.in_ok-units.ensures.counts.1 next.1
    (c.in_err-one_unit.ensures.unit props (rendering_rest h.left) at (passed_led app lawful limits props w h.left h.led) fault why)
    )

pub returns-clause-renders : goal.returns-clause-renders
returns-clause-renders g c = λ props w rests led fault why. cc

pub returns-in_err-rendering_rest-clause-err : goal.returns-in_err-rendering_rest-clause-err
returns-in_err-rendering_rest-clause-err g c =
    let p = err_from_is_err_and c.from_residual.result c.from_residual.ensures.1 in
    rw (p.1, p.2) (ends-low _ _ _ _ _ _ _ (run-after _ _ _ _ _ _ _ c.loop-unit.invariant.took.1))

pub returns-in_err-take_resolved-clause-err : goal.returns-in_err-take_resolved-clause-err
returns-in_err-take_resolved-clause-err g c =
    let p = err_from_is_err_and c.from_residual-in_err-take_resolved.result c.from_residual-in_err-take_resolved.ensures.1 in
    rw (p.1, p.2) (ends-low _ _ _ _ _ _ _ (run-after _ _ _ _ _ _ _ c.loop-unit.invariant.took.1))

pub returns-in_err-units-clause-err : goal.returns-in_err-units-clause-err
returns-in_err-units-clause-err g c =
    let p = err_from_is_err_and c.from_residual-in_err-units.result c.from_residual-in_err-units.ensures.1 in
    rw (p.1, p.2) (ends-low _ _ _ _ _ _ _ (caused-after _ _ _ _ _ _ _ c.loop-unit.invariant.took.1 c.in_err-units.ensures.explains))

pub returns-in_err-one_unit-clause-err : goal.returns-in_err-one_unit-clause-err
returns-in_err-one_unit-clause-err g c =
    let p = err_from_is_err_and c.from_residual-in_err-one_unit.result c.from_residual-in_err-one_unit.ensures.1 in
    rw (p.1, p.2) (ends-low _ _ _ _ _ _ _ (took-ends _ _ _ _ _ _ _ _ 0 _ c.loop-unit.invariant.took.1 c.in_err-one_unit.ensures.err))

pub returns-clause-err : goal.returns-clause-err
returns-clause-err g c = ends-low _ _ _ _ _ _ _ (run-after _ _ _ _ _ _ _ c.loop-unit.invariant.took.1)

pub returns-then-is_none-clause-took : goal.returns-then-is_none-clause-took
returns-then-is_none-clause-took g c = c.loop-unit.invariant.took

-- what was taken of a render that broke off
pub returns-in_err-rendering_rest-clause-breaks : goal.returns-in_err-rendering_rest-clause-breaks
returns-in_err-rendering_rest-clause-breaks g c =
    let p = err_from_is_err_and c.from_residual.result c.from_residual.ensures.1 in
    rw (p.1, p.2)
    (
    λ props w none rests led.
    let app = g.A.App.meaning c.args.app.now in
    let lawful = g.met.A.App.lawful c.args.app.now in
    let limits = limits_of c.args.limits in
    let h = c.loop-unit.invariant.on props w rests led in
    let before = g.M.WriteMutations.taken c.args.sink.now in
    let now = g.M.WriteMutations.taken c.loop-unit.sink in
    render_halts app lawful limits props w before now c.loop-unit.units c.loop-unit.machine wanting h ([], refl)
    )

pub returns-in_err-take_resolved-clause-breaks : goal.returns-in_err-take_resolved-clause-breaks
returns-in_err-take_resolved-clause-breaks g c =
    let p = err_from_is_err_and c.from_residual-in_err-take_resolved.result c.from_residual-in_err-take_resolved.ensures.1 in
    rw (p.1, p.2)
    (
    λ props w none rests led.
    let app = g.A.App.meaning c.args.app.now in
    let lawful = g.met.A.App.lawful c.args.app.now in
    let limits = limits_of c.args.limits in
    let h = c.loop-unit.invariant.on props w rests led in
    let before = g.M.WriteMutations.taken c.args.sink.now in
    let now = g.M.WriteMutations.taken c.loop-unit.sink in
    render_halts app lawful limits props w before now c.loop-unit.units c.loop-unit.machine wanting h ([], refl)
    )

pub returns-in_err-units-clause-breaks : goal.returns-in_err-units-clause-breaks
returns-in_err-units-clause-breaks g c =
    let p = err_from_is_err_and c.from_residual-in_err-units.result c.from_residual-in_err-units.ensures.1 in
    rw (p.1, p.2)
    (
    λ props w none rests led.
    let app = g.A.App.meaning c.args.app.now in
    let lawful = g.met.A.App.lawful c.args.app.now in
    let limits = limits_of c.args.limits in
    let h = c.loop-unit.invariant.on props w rests led in
    let before = g.M.WriteMutations.taken c.args.sink.now in
    let now = g.M.WriteMutations.taken c.loop-unit.sink in
    let ended = c.in_err-units.field-0.0 in
    render_halts app lawful limits props w before now c.loop-unit.units c.loop-unit.machine ended h (part_none c.args.limits ended [] c.in_err-units.ensures.explains)
    )

pub returns-in_err-one_unit-clause-breaks : goal.returns-in_err-one_unit-clause-breaks
returns-in_err-one_unit-clause-breaks g c =
    let p = err_from_is_err_and c.from_residual-in_err-one_unit.result c.from_residual-in_err-one_unit.ensures.1 in
    rw (p.1, p.2)
    (
    λ props w none rests led.
    let app = g.A.App.meaning c.args.app.now in
    let lawful = g.met.A.App.lawful c.args.app.now in
    let limits = limits_of c.args.limits in
    let h = c.loop-unit.invariant.on props w rests led in
    let before = g.M.WriteMutations.taken c.args.sink.now in
    let now = g.M.WriteMutations.taken c.loop-unit.sink in
    let mid = record (c.loop-unit.machine) { scopes = record (c.loop-unit.machine.scopes) { state = c.rendering_rest.new.state } } in
    let at = passed_rests h.left c.loop-unit.machine mid h.rests (c.in_ok-rendering_rest.ensures.rests (h.rests).kept) refl refl refl refl in
    let next = found_some h.left at.kept mid at.is c.found.result (c.found.ensures at.kept) c.is_none.result (flip c.is_none.result _ c.is_none.ensures) c.if-is_none.false in
    render_broke app lawful limits props w before now (g.M.WriteMutations.taken c.one_unit.new.sink) c.loop-unit.units next.0 c.loop-unit.machine c.in_err-one_unit.field-0.0 h
    c.in_ok-units.ensures.counts.1 next.1
    (c.in_err-one_unit.ensures.breaks props (rendering_rest h.left) none at (passed_led app lawful limits props w h.left h.led))
    )

pub returns-clause-breaks : goal.returns-clause-breaks
returns-clause-breaks g c =
    λ props w none rests led.
    let app = g.A.App.meaning c.args.app.now in
    let lawful = g.met.A.App.lawful c.args.app.now in
    let limits = limits_of c.args.limits in
    let h = c.loop-unit.invariant.on props w rests led in
    let before = g.M.WriteMutations.taken c.args.sink.now in
    let now = g.M.WriteMutations.taken c.loop-unit.sink in
    render_halts app lawful limits props w before now c.loop-unit.units c.loop-unit.machine wanting h ([], refl)
