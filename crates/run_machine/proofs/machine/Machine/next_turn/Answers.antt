use Rattle.std.proofs.Common.{◌∙◌, refl, sym, ap}
use Rattle.std.proofs.lemmas.Result.{err_from_is_err_and}
use Rattle.std.specs.Prelude.{option_map}
use Rattle.run_reports.specs.Seen.{limits_of}
use Rattle.run_state.specs.Names.{work_of}
use Rattle.run_machine.proofs.Opening.{stands_begun, none_begun}
use Rattle.run_machine.proofs.Turning.{stands_settled}
use Rattle.run_state.specs.Mirror.{at_first, state_of}
use Rattle.law_moves.specs.Turn.{entry_for, unit_of}
use Rattle.run_turns.specs.Counting.{calls_after, now_at}
use Rattle.run_machine.specs.Stands.{counting}
use Rattle.run_turns.proofs.Counting.{along}
use Rattle.run_machine.proofs.Noting.{wanting_keeps, resting_keeps, begun_keeps, unbegun_keeps}
use Rattle.run_machine.proofs.machine.Machine.next_turn.Goals as goal

pub returns-in_err-begin-in-Some-clause-turns : goal.returns-in_err-begin-in-Some-clause-turns
returns-in_err-begin-in-Some-clause-turns g c =
    let p = err_from_is_err_and c.from_residual-in_err-begin-in-Some.result c.from_residual-in_err-begin-in-Some.ensures.1 in
    rw (p.1, p.2)
    (
    λ r edits over idle stands fault why.
    let app = g.A.App.meaning c.args.app.now in
    let mid = record c.args.self.now { scopes = record c.args.self.now.scopes { state = c.next_work.new.self } } in
    none_begun app (g.met.A.App.lawful c.args.app.now) (c.due_is_any.ensures app) (limits_of c.args.limits) (counting r c.args.calls.now) (work_of c.in-Some.work) edits c.args.self.now mid c.begin.new.self c.in_err-begin-in-Some.field-0.0 fault stands
    (record { frame = refl; rested = λ kept. c.in_ok-work.ensures.rest kept; up = λ kept. sym (ap (λ o. option_map work_of o) c.in-Some.is) ∙ c.in_ok-work.ensures.next kept })
    c.in_err-begin-in-Some.ensures.begins why
    )

pub returns-in_ok-begin-in-Some-clause-turns : goal.returns-in_ok-begin-in-Some-clause-turns
returns-in_ok-begin-in-Some-clause-turns g c =
    λ r edits over idle stands.
    let app = g.A.App.meaning c.args.app.now in
    let mid = record c.args.self.now { scopes = record c.args.self.now.scopes { state = c.next_work.new.self } } in
    stands_begun app (g.met.A.App.lawful c.args.app.now) (c.due_is_any.ensures app) (limits_of c.args.limits) (counting r c.args.calls.now) (now_at c.begin.new.calls r.count) (work_of c.in-Some.work) edits c.args.self.now mid c.begin.new.self stands idle
    (record { frame = refl; rested = λ kept. c.in_ok-work.ensures.rest kept; up = λ kept. sym (ap (λ o. option_map work_of o) c.in-Some.is) ∙ c.in_ok-work.ensures.next kept })
    c.in_ok-begin-in-Some.ensures.begins c.in_ok-begin-in-Some.ensures.first c.in_ok-begin-in-Some.ensures.units (c.in_ok-begin-in-Some.ensures.remembers stands.0) c.begin.ensures.others
    (λ kept. along r.count c.args.calls.now c.begin.new.calls kept.calls (calls_after (unit_of app (state_of kept c.next_work.new.self) (work_of c.in-Some.work))) (c.in_ok-begin-in-Some.ensures.counted kept))

pub returns-in-None-clause-turns : goal.returns-in-None-clause-turns
returns-in-None-clause-turns g c =
    λ r edits over idle stands.
    let app = g.A.App.meaning c.args.app.now in
    let mid = record c.args.self.now { scopes = record c.args.self.now.scopes { state = c.next_work.new.self } } in
    stands_settled app (g.met.A.App.lawful c.args.app.now) (limits_of c.args.limits) (counting r c.args.calls.now) edits c.args.self.now mid stands over idle refl (λ kept. c.in_ok-work.ensures.rest kept)
    (λ kept. sym (ap (λ o. option_map work_of o) c.in-None.is) ∙ c.in_ok-work.ensures.next kept)

pub returns-in_err-work-clause-keeps : goal.returns-in_err-work-clause-keeps
returns-in_err-work-clause-keeps g c =
    let p = err_from_is_err_and c.from_residual.result c.from_residual.ensures.1 in
    rw (p.1, p.2) (λ idle over. wanting_keeps c.args.self.now (record c.args.self.now { scopes = record c.args.self.now.scopes { state = c.next_work.new.self } }) refl refl)

pub returns-in-None-clause-keeps : goal.returns-in-None-clause-keeps
returns-in-None-clause-keeps g c = λ idle over. resting_keeps c.args.self.now (record c.args.self.now { scopes = record c.args.self.now.scopes { state = c.next_work.new.self } }) refl refl refl

pub returns-in_err-begin-in-Some-clause-keeps : goal.returns-in_err-begin-in-Some-clause-keeps
returns-in_err-begin-in-Some-clause-keeps g c =
    let p = err_from_is_err_and c.from_residual-in_err-begin-in-Some.result c.from_residual-in_err-begin-in-Some.ensures.1 in
    rw (p.1, p.2)
    (
    λ idle over.
    let mid = record c.args.self.now { scopes = record c.args.self.now.scopes { state = c.next_work.new.self } } in
    unbegun_keeps (g.A.App.meaning c.args.app.now) (limits_of c.args.limits) _ (entry_for (work_of c.in-Some.work)) c.args.self.now mid c.begin.new.self c.in_err-begin-in-Some.field-0.0 idle over refl refl refl
    (λ kept. c.in_ok-work.ensures.rest kept) (c.in_err-begin-in-Some.ensures.begins at_first) c.in_err-begin-in-Some.ensures.spent
    (ap (λ d. d.hearing) c.begin.ensures.others) (ap (λ d. d.default_enabled) c.begin.ensures.others)
    )

pub returns-in_ok-begin-in-Some-clause-keeps : goal.returns-in_ok-begin-in-Some-clause-keeps
returns-in_ok-begin-in-Some-clause-keeps g c =
    λ idle over.
    begun_keeps c.args.self.now c.begin.new.self (entry_for (work_of c.in-Some.work)) 0 idle over (c.in_ok-begin-in-Some.ensures.begins at_first).1.logged
    (ap (λ d. d.hearing) c.begin.ensures.others) (ap (λ d. d.default_enabled) c.begin.ensures.others)

pub returns-in_err-begin-in-Some-clause-uncalled : goal.returns-in_err-begin-in-Some-clause-uncalled
returns-in_err-begin-in-Some-clause-uncalled g c =
    let p = err_from_is_err_and c.from_residual-in_err-begin-in-Some.result c.from_residual-in_err-begin-in-Some.ensures.1 in
    rw (p.1, p.2) c.in_err-begin-in-Some.ensures.uncalled

pub returns-in_err-work-clause-uncalled : goal.returns-in_err-work-clause-uncalled
returns-in_err-work-clause-uncalled g c =
    let p = err_from_is_err_and c.from_residual.result c.from_residual.ensures.1 in rw (p.1, p.2) (λ units why. refl)
