use Rattle.std.proofs.Common.{[], ◌≡◌, ◌++◌, refl, sym, ap, ◌∙◌, subst}
use Rattle.std.proofs.lemmas.Result.{err_from_is_err_and}
use Rattle.std.specs.Prelude.{Some, None, Ok, Err, option_map}
use Rattle.run_reports.specs.Seen.{entry_of, limits_of}
use Rattle.run_turns.specs.Counting.{now_at}
use Rattle.run_machine.specs.Machines.{noted}
use Rattle.run_machine.specs.Stands.{StandsFor, counting}
use Rattle.run_machine.proofs.Breaking.{in_along, in_at}
use Rattle.run_outside.proofs.Parts.{part_none}
use Rattle.run_machine.proofs.Quiet.{stands_before, quiet_turns, quiet_came, turns_from}
use Rattle.run_outside.proofs.Sinks.{ends-caused, took-none, took-same}
use Rattle.run_machine.specs.Keeps.{TurnKeeps}
use Rattle.run_outside.specs.Turns.{taken_by}
use Rattle.run_machine.proofs.Noting.{never_spends, work_keeps}
use Rattle.rt_scopes.proofs.KnownLeft.{knows_none, ok_anyway}
use Rattle.run_state.specs.Mirror.{state_of}
use Rattle.run_machine.proofs.machine.Machine.turn_knowing.Goals as goal

pub returns-in_err-quiet_turn-in-None-clause-err : goal.returns-in_err-quiet_turn-in-None-clause-err
returns-in_err-quiet_turn-in-None-clause-err g c =
    let p = err_from_is_err_and c.from_residual.result c.from_residual.ensures.1 in
    rw (p.1, p.2) (ends-caused c.args.limits _ _ _ c.in_err-quiet_turn-in-None.ensures.err)

pub returns-in_ok-quiet_turn-in-None-clause-ok : goal.returns-in_ok-quiet_turn-in-None-clause-ok
returns-in_ok-quiet_turn-in-None-clause-ok g c =
    let told = g.M.WriteMutations.taken c.args.sink.now in
    let failures = g.M.WriteMutations.faults c.args.sink.now in
    took-same told told failures failures 0 (taken_by c.in_ok-quiet_turn-in-None.field-0) (sym c.in_ok-quiet_turn-in-None.ensures.ok) (took-none told failures)

pub returns-in-Some-clause-ok : goal.returns-in-Some-clause-ok
returns-in-Some-clause-ok g c = c.work_turn.ensures.ok

pub returns-in-Some-clause-err : goal.returns-in-Some-clause-err
returns-in-Some-clause-err g c = c.work_turn.ensures.err

pub returns-in-Some-clause-turns : goal.returns-in-Some-clause-turns
returns-in-Some-clause-turns g c =
    λ r edits stands.
    let b = stands_before (g.A.App.meaning c.args.app.now) (g.met.A.App.lawful c.args.app.now) (limits_of c.args.limits) (counting r c.args.calls.now) edits c.args.self.now (record c.args.self.now { work = c.pop.new.self }) c.in-Some.item stands c.in-Some.ensures.last refl in
    turns_from (g.A.App.meaning c.args.app.now) (g.met.A.App.lawful c.args.app.now) (limits_of c.args.limits) (counting r c.work_turn.new.calls) edits
    (g.M.WriteMutations.taken c.args.sink.now) (g.M.WriteMutations.taken c.work_turn.new.sink) c.args.self.now (record c.args.self.now { work = c.pop.new.self }) c.work_turn.new.self c.work_turn.result refl
    (c.work_turn.ensures.turns r edits b.0 b.1 b.2)

pub returns-in-Some-first-clause-turns : goal.returns-in-Some-first-clause-turns
returns-in-Some-first-clause-turns g c =
    λ r edits stands.
    let app = g.A.App.meaning c.args.app.now in
    let at = ap (λ o. option_map entry_of o) c.in-Some-first.is in
    let same = ap (λ ws. record c.args.self.now { work = ws }) (c.in_default.ensures.last.0 ∙ sym c.in_default.ensures.last.1) in
    let going = counting r c.args.calls.now in
    turns_from app (g.met.A.App.lawful c.args.app.now) (limits_of c.args.limits) going edits
    (g.M.WriteMutations.taken c.args.sink.now) (g.M.WriteMutations.taken c.close_turn.new.sink) c.args.self.now (record c.args.self.now { work = c.pop.new.self }) c.close_turn.new.self c.close_turn.result refl
    (c.close_turn.ensures.turns app (g.met.A.App.lawful c.args.app.now) (limits_of c.args.limits) going edits at c.in_default.ensures.last.1
    (subst (λ d. StandsFor app (limits_of c.args.limits) going (Some (entry_of c.in-Some-first.first)) edits d) same (subst (λ o. StandsFor app (limits_of c.args.limits) going o edits c.args.self.now) at stands)))

pub returns-in_err-quiet_turn-in-None-clause-turns : goal.returns-in_err-quiet_turn-in-None-clause-turns
returns-in_err-quiet_turn-in-None-clause-turns g c =
    let p = err_from_is_err_and c.from_residual.result c.from_residual.ensures.1 in
    rw (p.1, p.2)
    (
    λ r edits stands.
    let app = g.A.App.meaning c.args.app.now in
    let at = ap (λ o. option_map entry_of o) c.in-None.is in
    let same = ap (λ ws. record c.args.self.now { work = ws }) (c.in_default.ensures.last.0 ∙ sym c.in_default.ensures.last.1) in
    let going = counting r c.args.calls.now in
    quiet_came app (g.met.A.App.lawful c.args.app.now) (limits_of c.args.limits) (counting r c.quiet_turn.new.calls) edits (g.M.WriteMutations.taken c.args.sink.now) c.args.self.now c.quiet_turn.new.self c.in_err-quiet_turn-in-None.field-0.0
    (c.in_err-quiet_turn-in-None.ensures.turns r edits c.in-None.is c.in_default.ensures.last.1
    (subst (λ d. StandsFor app (limits_of c.args.limits) going None edits d) same (subst (λ o. StandsFor app (limits_of c.args.limits) going o edits c.args.self.now) at stands)))
    (
    λ none.
    in_along app (limits_of c.args.limits) going (now_at c.quiet_turn.new.calls r.count) (r.opened ++ noted c.args.self.now) edits (g.M.WriteMutations.taken c.args.sink.now) (g.M.WriteMutations.taken c.args.sink.now) c.in_err-quiet_turn-in-None.field-0.0
    (in_at app (limits_of c.args.limits) going edits (g.M.WriteMutations.taken c.args.sink.now) c.args.self.now c.in_err-quiet_turn-in-None.field-0.0 stands
    (part_none c.args.limits c.in_err-quiet_turn-in-None.field-0.0 [] c.in_err-quiet_turn-in-None.ensures.err))
    )
    )

pub returns-in_ok-quiet_turn-in-None-clause-turns : goal.returns-in_ok-quiet_turn-in-None-clause-turns
returns-in_ok-quiet_turn-in-None-clause-turns g c =
    λ r edits stands.
    let app = g.A.App.meaning c.args.app.now in
    let at = ap (λ o. option_map entry_of o) c.in-None.is in
    let same = ap (λ ws. record c.args.self.now { work = ws }) (c.in_default.ensures.last.0 ∙ sym c.in_default.ensures.last.1) in
    let going = counting r c.args.calls.now in
    quiet_turns app (g.met.A.App.lawful c.args.app.now) (limits_of c.args.limits) (counting r c.quiet_turn.new.calls) edits (g.M.WriteMutations.taken c.args.sink.now) c.args.self.now c.quiet_turn.new.self c.in_ok-quiet_turn-in-None.field-0 c.in_ok-quiet_turn-in-None.ensures.ok
    (c.in_ok-quiet_turn-in-None.ensures.turns r edits c.in-None.is c.in_default.ensures.last.1
    (subst (λ d. StandsFor app (limits_of c.args.limits) going None edits d) same (subst (λ o. StandsFor app (limits_of c.args.limits) going o edits c.args.self.now) at stands)))

pub returns-in-Some-clause-keeps : goal.returns-in-Some-clause-keeps
returns-in-Some-clause-keeps g c = work_keeps c.args.self.now (record c.args.self.now { work = c.pop.new.self }) c.work_turn.new.self c.work_turn.result refl refl refl c.work_turn.ensures.keeps

pub returns-in-Some-first-clause-keeps : goal.returns-in-Some-first-clause-keeps
returns-in-Some-first-clause-keeps g c = work_keeps c.args.self.now (record c.args.self.now { work = c.pop.new.self }) c.close_turn.new.self c.close_turn.result refl refl refl c.close_turn.ensures.keeps

pub returns-in_err-quiet_turn-in-None-clause-keeps : goal.returns-in_err-quiet_turn-in-None-clause-keeps
returns-in_err-quiet_turn-in-None-clause-keeps g c =
    let p = err_from_is_err_and c.from_residual.result c.from_residual.ensures.1 in
    let same = ap (λ ws. record c.args.self.now { work = ws }) (c.in_default.ensures.last.0 ∙ sym c.in_default.ensures.last.1) in
    rw (p.1, p.2) (subst (λ d. TurnKeeps d c.quiet_turn.new.self (Err c.in_err-quiet_turn-in-None.field-0.0)) (sym same) (c.in_err-quiet_turn-in-None.ensures.keeps c.in_default.ensures.last.1 c.in-None.is))

pub returns-in_ok-quiet_turn-in-None-clause-keeps : goal.returns-in_ok-quiet_turn-in-None-clause-keeps
returns-in_ok-quiet_turn-in-None-clause-keeps g c =
    let same = ap (λ ws. record c.args.self.now { work = ws }) (c.in_default.ensures.last.0 ∙ sym c.in_default.ensures.last.1) in
    subst (λ d. TurnKeeps d c.quiet_turn.new.self (Ok c.in_ok-quiet_turn-in-None.field-0)) (sym same) (c.in_ok-quiet_turn-in-None.ensures.keeps c.in_default.ensures.last.1 c.in-None.is)

pub returns-in-Some-clause-uncalled : goal.returns-in-Some-clause-uncalled
returns-in-Some-clause-uncalled g c = never_spends (c.work_turn.new.calls ≡ c.args.calls.now) c.work_turn.result c.work_turn.ensures.keeps.unspent

pub returns-in-Some-first-clause-uncalled : goal.returns-in-Some-first-clause-uncalled
returns-in-Some-first-clause-uncalled g c = never_spends (c.args.calls.now ≡ c.args.calls.now) c.close_turn.result c.close_turn.ensures.keeps.unspent

pub returns-in_err-quiet_turn-in-None-clause-uncalled : goal.returns-in_err-quiet_turn-in-None-clause-uncalled
returns-in_err-quiet_turn-in-None-clause-uncalled g c =
    let p = err_from_is_err_and c.from_residual.result c.from_residual.ensures.1 in rw (p.1, p.2) c.in_err-quiet_turn-in-None.ensures.uncalled

pub returns-in-Some-clause-knows : goal.returns-in-Some-clause-knows
returns-in-Some-clause-knows g c = c.work_turn.ensures.knows

pub returns-in-Some-first-clause-knows : goal.returns-in-Some-first-clause-knows
returns-in-Some-first-clause-knows g c =
    ok_anyway c.close_turn.result (λ kept. knows_none (state_of kept c.close_turn.new.self.scopes.state) c.clear.new.self.rows.items c.clear.ensures.empty)

pub returns-in_ok-quiet_turn-in-None-clause-knows : goal.returns-in_ok-quiet_turn-in-None-clause-knows
returns-in_ok-quiet_turn-in-None-clause-knows g c =
    λ kept. knows_none (state_of kept c.quiet_turn.new.self.scopes.state) c.clear.new.self.rows.items c.clear.ensures.empty
