use Rattle.std.proofs.Common.{true, false, [], ◌≡◌, refl, sym, ap, ◌∙◌, subst, map}
use Rattle.std.proofs.lemmas.Result.{err_from_is_err_and}
use Rattle.std.specs.Prelude.{Ok, Some}
use Rattle.tree_edits.specs.Documents.{edit_of}
use Rattle.rt_model.specs.Asides.{resting}
use Rattle.run_reports.specs.Seen.{entry_of, limits_of}
use Rattle.run_machine.specs.Keeps.{TurnKeeps}
use Rattle.run_machine.specs.Machines.{noted}
use Rattle.run_outside.specs.Short.{PartBy}
use Rattle.run_machine.specs.Stands.{TurnsAs, counting}
use Rattle.run_machine.proofs.Breaking.{in_after}
use Rattle.run_outside.proofs.Sinks.{took-more, took-ends, ends-low, run-after}
use Rattle.run_rounds.specs.Rounds.{BrokeAlone, OpensFirst}
use Rattle.run_rounds.proofs.Alone.{alone_of}
use Rattle.run_rounds.proofs.Breaks.{wanting, breaks_at, broke_nothing}
use Rattle.run_rounds.proofs.Reporting.{going_at}
use Rattle.run_rounds.proofs.Units.{none_mapped, unit_rests, unit_begins, unit_done, unit_cut_first, unit_cut_later, opens_one, opens_first}
use Rattle.run_rounds.proofs.suspended.one_unit.Goals as goal

pub returns-in_err-written-clause-unit : goal.returns-in_err-written-clause-unit
returns-in_err-written-clause-unit g c =
    let p = err_from_is_err_and c.from_residual.result c.from_residual.ensures.1 in
    rw (p.1, p.2)
    (
    λ props w rests led fault why.
    let app = g.A.App.meaning c.args.app.now in
    let lawful = g.met.A.App.lawful c.args.app.now in
    let limits = limits_of c.args.limits in
    let begun = record (c.args.machine.now) { units = 0; default_enabled = true } in
    let stands = unit_begins app lawful limits props w c.args.calls.now begun (unit_rests w c.args.machine.now begun rests refl refl refl refl refl) refl refl led in
    unit_cut_first app lawful limits props w (Some c.turn.new.calls) (g.M.WriteMutations.taken c.args.sink.now) (g.M.WriteMutations.taken c.turn.new.sink) begun c.turn.new.self
    c.in_err-written.field-0.0 (ap (λ es. map entry_of es) (rests.idle).course)
    (c.in_err-written.ensures.turns (going_at props w (Some 0)) [] stands) c.in_err-written.ensures.keeps fault why
    )

pub returns-in_default-clause-unit : goal.returns-in_default-clause-unit
returns-in_default-clause-unit g c = λ props w rests led fault why. cc

pub returns-in_err-more-clause-unit : goal.returns-in_err-more-clause-unit
returns-in_err-more-clause-unit g c =
    let p = err_from_is_err_and c.from_residual-in_err-more.result c.from_residual-in_err-more.ensures.1 in
    rw (p.1, p.2)
    (
    λ props w rests led fault why.
    let app = g.A.App.meaning c.args.app.now in
    let lawful = g.met.A.App.lawful c.args.app.now in
    let limits = limits_of c.args.limits in
    let begun = record (c.args.machine.now) { units = 0; default_enabled = true } in
    let stands = unit_begins app lawful limits props w c.args.calls.now begun (unit_rests w c.args.machine.now begun rests refl refl refl refl refl) refl refl led in
    let r = going_at props w (Some 0) in
    unit_cut_later app lawful limits props w (Some c.turn.new.calls) (Some c.finish.new.calls) (g.M.WriteMutations.taken c.args.sink.now) (g.M.WriteMutations.taken c.turn.new.sink)
    (g.M.WriteMutations.taken c.finish.new.sink) c.in-Some.written begun c.turn.new.self c.finish.new.machine c.in_err-more.field-0.0
    (ap (λ es. map entry_of es) (rests.idle).course)
    (subst (λ o. TurnsAs app limits (counting r c.turn.new.calls) [] (g.M.WriteMutations.taken c.args.sink.now) (g.M.WriteMutations.taken c.turn.new.sink) begun c.turn.new.self (Ok o)) c.in-Some.is
    (c.in_ok-written.ensures.turns r [] stands))
    (subst (λ o. TurnKeeps begun c.turn.new.self (Ok o)) c.in-Some.is c.in_ok-written.ensures.keeps)
    (λ edits there. c.in_err-more.ensures.finishes r edits there) fault why
    )

pub returns-then-is_empty-clause-unit : goal.returns-then-is_empty-clause-unit
returns-then-is_empty-clause-unit g c = λ props w rests led fault why. cc

pub returns-clause-unit : goal.returns-clause-unit
returns-clause-unit g c =
    λ props w rests led.
    let app = g.A.App.meaning c.args.app.now in
    let lawful = g.met.A.App.lawful c.args.app.now in
    let limits = limits_of c.args.limits in
    let begun = record (c.args.machine.now) { units = 0; default_enabled = true } in
    let stands = unit_begins app lawful limits props w c.args.calls.now begun (unit_rests w c.args.machine.now begun rests refl refl refl refl refl) refl refl led in
    let r = going_at props w (Some 0) in
    unit_done app lawful limits props w c.turn.new.calls c.finish.new.calls (g.M.WriteMutations.taken c.args.sink.now) (g.M.WriteMutations.taken c.turn.new.sink)
    (g.M.WriteMutations.taken c.finish.new.sink) c.in-Some.written c.in_ok-more.more begun c.turn.new.self c.finish.new.machine c.report_of-told.new.self
    (ap (λ es. map entry_of es) (rests.idle).course) (rests.idle).hearing refl
    (subst (λ o. TurnsAs app limits (counting r c.turn.new.calls) [] (g.M.WriteMutations.taken c.args.sink.now) (g.M.WriteMutations.taken c.turn.new.sink) begun c.turn.new.self (Ok o)) c.in-Some.is
    (c.in_ok-written.ensures.turns r [] stands))
    (subst (λ o. TurnKeeps begun c.turn.new.self (Ok o)) c.in-Some.is c.in_ok-written.ensures.keeps)
    (λ edits there. c.in_ok-more.ensures.finishes r edits there)
    (
    λ none.
    let empty = c.report_of-told.ensures.log ∙ none_mapped entry_of c.finish.new.machine.course.entries none in
    let absurdity : true ≡ false = sym (c.is_empty.ensures.empty.1 empty) ∙ c.if-is_empty.false in
    cc
    )
    c.report_of-told.ensures.others c.report_of-told.ensures.course

pub returns-in_err-written-clause-err : goal.returns-in_err-written-clause-err
returns-in_err-written-clause-err g c =
    let p = err_from_is_err_and c.from_residual.result c.from_residual.ensures.1 in rw (p.1, p.2) c.in_err-written.ensures.err

pub returns-in_default-clause-err : goal.returns-in_default-clause-err
returns-in_default-clause-err g c = ends-low _ _ _ _ _ _ _ (run-after _ _ _ _ _ _ _ c.in_ok-written.ensures.ok)

pub returns-in_err-more-clause-err : goal.returns-in_err-more-clause-err
returns-in_err-more-clause-err g c =
    let p = err_from_is_err_and c.from_residual-in_err-more.result c.from_residual-in_err-more.ensures.1 in
    rw (p.1, p.2) (ends-low _ _ _ _ _ _ _ (took-ends _ _ _ _ _ _ _ _ 0 _ c.in_ok-written.ensures.ok c.in_err-more.ensures.err))

pub returns-then-is_empty-clause-err : goal.returns-then-is_empty-clause-err
returns-then-is_empty-clause-err g c =
    ends-low _ _ _ _ _ _ _ (run-after _ _ _ _ _ _ _ (took-more _ _ _ _ _ _ _ _ c.in_ok-written.ensures.ok c.in_ok-more.ensures.ok))

pub returns-clause-ok : goal.returns-clause-ok
returns-clause-ok g c = (_, took-more _ _ _ _ _ _ _ _ c.in_ok-written.ensures.ok c.in_ok-more.ensures.ok)

pub returns-in_err-edits-clause-unit : goal.returns-in_err-edits-clause-unit
returns-in_err-edits-clause-unit g c =
    let p = err_from_is_err_and c.from_residual-in_err-edits.result c.from_residual-in_err-edits.ensures.1 in
    rw (p.1, p.2) (λ props w rests led fault why. cc)

pub returns-in_err-edits-clause-err : goal.returns-in_err-edits-clause-err
returns-in_err-edits-clause-err g c =
    let p = err_from_is_err_and c.from_residual-in_err-edits.result c.from_residual-in_err-edits.ensures.1 in
    rw (p.1, p.2) (ends-low _ _ _ _ _ _ _ (run-after _ _ _ _ _ _ _ (took-more _ _ _ _ _ _ _ _ c.in_ok-written.ensures.ok c.in_ok-more.ensures.ok)))

-- what was taken of a unit that broke off
pub returns-in_err-written-clause-breaks : goal.returns-in_err-written-clause-breaks
returns-in_err-written-clause-breaks g c =
    let p = err_from_is_err_and c.from_residual.result c.from_residual.ensures.1 in
    rw (p.1, p.2)
    (
    λ props w none rests led.
    let app = g.A.App.meaning c.args.app.now in
    let lawful = g.met.A.App.lawful c.args.app.now in
    let limits = limits_of c.args.limits in
    let begun = record (c.args.machine.now) { units = 0; default_enabled = true } in
    let stands = unit_begins app lawful limits props w c.args.calls.now begun (unit_rests w c.args.machine.now begun rests refl refl refl refl refl) refl refl led in
    let r = going_at props w (Some 0) in
    let before = g.M.WriteMutations.taken c.args.sink.now in
    let now = g.M.WriteMutations.taken c.turn.new.sink in
    alone_of app limits (counting r c.turn.new.calls) (noted begun) before now c.in_err-written.field-0.0 ((c.in_err-written.ensures.turns r [] stands).1 none)
    (subst (λ l. OpensFirst l) (sym (ap (λ es. map entry_of es) (rests.idle).course)) tt)
    )

pub returns-in_default-clause-breaks : goal.returns-in_default-clause-breaks
returns-in_default-clause-breaks g c =
    λ props w none rests led.
    let app = g.A.App.meaning c.args.app.now in
    let lawful = g.met.A.App.lawful c.args.app.now in
    let limits = limits_of c.args.limits in
    let begun = record (c.args.machine.now) { units = 0; default_enabled = true } in
    let stands = unit_begins app lawful limits props w c.args.calls.now begun (unit_rests w c.args.machine.now begun rests refl refl refl refl refl) refl refl led in
    let r = going_at props w (Some 0) in
    let before = g.M.WriteMutations.taken c.args.sink.now in
    let now = g.M.WriteMutations.taken c.turn.new.sink in
    let t =
    subst (λ o. TurnsAs app limits (counting r c.turn.new.calls) [] before now begun c.turn.new.self (Ok o)) c.in_default.is
    (c.in_ok-written.ensures.turns r [] stands) in
    subst (λ o. BrokeAlone app limits (resting w) before o (PartBy wanting)) (sym t.0) (broke_nothing app limits props w before wanting ([], refl))

pub returns-in_err-more-clause-breaks : goal.returns-in_err-more-clause-breaks
returns-in_err-more-clause-breaks g c =
    let p = err_from_is_err_and c.from_residual-in_err-more.result c.from_residual-in_err-more.ensures.1 in
    rw (p.1, p.2)
    (
    λ props w none rests led.
    let app = g.A.App.meaning c.args.app.now in
    let lawful = g.met.A.App.lawful c.args.app.now in
    let limits = limits_of c.args.limits in
    let begun = record (c.args.machine.now) { units = 0; default_enabled = true } in
    let stands = unit_begins app lawful limits props w c.args.calls.now begun (unit_rests w c.args.machine.now begun rests refl refl refl refl refl) refl refl led in
    let r = going_at props w (Some 0) in
    let before = g.M.WriteMutations.taken c.args.sink.now in
    let now = g.M.WriteMutations.taken c.turn.new.sink in
    let after = g.M.WriteMutations.taken c.finish.new.sink in
    let t =
    subst (λ o. TurnsAs app limits (counting r c.turn.new.calls) [] before now begun c.turn.new.self (Ok o)) c.in-Some.is
    (c.in_ok-written.ensures.turns r [] stands) in
    let keeps = subst (λ o. TurnKeeps begun c.turn.new.self (Ok o)) c.in-Some.is c.in_ok-written.ensures.keeps in
    alone_of app limits (counting r c.finish.new.calls) (noted c.turn.new.self) before after c.in_err-more.field-0.0
    (in_after app limits (counting r c.turn.new.calls) (Some c.finish.new.calls) (noted c.turn.new.self) [] before now after c.in-Some.written c.turn.new.self c.in_err-more.field-0.0 t
    (c.in_err-more.ensures.breaks r (map edit_of t.wrote) none t.stands))
    (opens_one begun c.turn.new.self (ap (λ es. map entry_of es) (rests.idle).course) keeps.logs)
    )

pub returns-in_err-edits-clause-breaks : goal.returns-in_err-edits-clause-breaks
returns-in_err-edits-clause-breaks g c =
    let p = err_from_is_err_and c.from_residual-in_err-edits.result c.from_residual-in_err-edits.ensures.1 in
    rw (p.1, p.2)
    (
    λ props w none rests led.
    let app = g.A.App.meaning c.args.app.now in
    let lawful = g.met.A.App.lawful c.args.app.now in
    let limits = limits_of c.args.limits in
    let begun = record (c.args.machine.now) { units = 0; default_enabled = true } in
    let stands = unit_begins app lawful limits props w c.args.calls.now begun (unit_rests w c.args.machine.now begun rests refl refl refl refl refl) refl refl led in
    let r = going_at props w (Some 0) in
    let before = g.M.WriteMutations.taken c.args.sink.now in
    let now = g.M.WriteMutations.taken c.turn.new.sink in
    let after = g.M.WriteMutations.taken c.finish.new.sink in
    let t =
    subst (λ o. TurnsAs app limits (counting r c.turn.new.calls) [] before now begun c.turn.new.self (Ok o)) c.in-Some.is
    (c.in_ok-written.ensures.turns r [] stands) in
    let f = c.in_ok-more.ensures.finishes r (map edit_of t.wrote) t.stands in
    let keeps = subst (λ o. TurnKeeps begun c.turn.new.self (Ok o)) c.in-Some.is c.in_ok-written.ensures.keeps in
    alone_of app limits (counting r c.finish.new.calls) (noted c.finish.new.machine) before after wanting
    (in_after app limits (counting r c.turn.new.calls) (Some c.finish.new.calls) (noted c.finish.new.machine) [] before now after c.in-Some.written c.turn.new.self wanting t
    (breaks_at app lawful limits (counting r c.finish.new.calls) (map edit_of t.wrote) now after c.in_ok-more.more c.finish.new.machine f.on))
    (opens_first begun c.turn.new.self c.finish.new.machine (ap (λ es. map entry_of es) (rests.idle).course) keeps.logs f.inside)
    )

pub returns-then-is_empty-clause-breaks : goal.returns-then-is_empty-clause-breaks
returns-then-is_empty-clause-breaks g c =
    λ props w none rests led.
    let app = g.A.App.meaning c.args.app.now in
    let lawful = g.met.A.App.lawful c.args.app.now in
    let limits = limits_of c.args.limits in
    let begun = record (c.args.machine.now) { units = 0; default_enabled = true } in
    let stands = unit_begins app lawful limits props w c.args.calls.now begun (unit_rests w c.args.machine.now begun rests refl refl refl refl refl) refl refl led in
    let r = going_at props w (Some 0) in
    let before = g.M.WriteMutations.taken c.args.sink.now in
    let now = g.M.WriteMutations.taken c.turn.new.sink in
    let after = g.M.WriteMutations.taken c.finish.new.sink in
    let t =
    subst (λ o. TurnsAs app limits (counting r c.turn.new.calls) [] before now begun c.turn.new.self (Ok o)) c.in-Some.is
    (c.in_ok-written.ensures.turns r [] stands) in
    let f = c.in_ok-more.ensures.finishes r (map edit_of t.wrote) t.stands in
    let keeps = subst (λ o. TurnKeeps begun c.turn.new.self (Ok o)) c.in-Some.is c.in_ok-written.ensures.keeps in
    alone_of app limits (counting r c.finish.new.calls) (noted c.finish.new.machine) before after wanting
    (in_after app limits (counting r c.turn.new.calls) (Some c.finish.new.calls) (noted c.finish.new.machine) [] before now after c.in-Some.written c.turn.new.self wanting t
    (breaks_at app lawful limits (counting r c.finish.new.calls) (map edit_of t.wrote) now after c.in_ok-more.more c.finish.new.machine f.on))
    (opens_first begun c.turn.new.self c.finish.new.machine (ap (λ es. map entry_of es) (rests.idle).course) keeps.logs f.inside)
