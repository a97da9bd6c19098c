use Rattle.std.proofs.Common.{refl}
use Rattle.std.proofs.lemmas.Result.{err_from_is_err_and}
use Rattle.run_reports.specs.Seen.{limits_of}
use Rattle.run_machine.proofs.Steps.{begun_cut, not_equal}
use Rattle.run_machine.proofs.Noting.{stop_never_spent}
use Rattle.run_machine.proofs.machine.Machine.begin.Goals as goal

pub returns-in_err-begin_unit-clause-begins : goal.returns-in_err-begin_unit-clause-begins
returns-in_err-begin_unit-clause-begins g c =
    λ kept.
    let p = err_from_is_err_and c.from_residual-in_err-begin_unit.result c.from_residual-in_err-begin_unit.ensures.1 in
    rw (p.1, p.2)
    (begun_cut (g.A.App.meaning c.args.app.now) (limits_of c.args.limits) _ _ c.args.self.now (record c.args.self.now { units = c.in_ok-self.field-0 }) c.begin_unit.new.self c.in_err-begin_unit.field-0.0 (not_equal _ _ c.if-self-limits.false) refl (c.in_err-begin_unit.ensures.begins kept))

pub returns-clause-begins : goal.returns-clause-begins
returns-clause-begins g c =
    λ kept.
    let d = c.in_ok-begin_unit.ensures.begins kept in
    ((not_equal _ _ c.if-self-limits.false), record { kept = d.kept; work = d.work; done = d.done; open_is = d.open_is; logged = d.logged })

pub returns-in_err-begin_unit-clause-spent : goal.returns-in_err-begin_unit-clause-spent
returns-in_err-begin_unit-clause-spent g c =
    let p = err_from_is_err_and c.from_residual-in_err-begin_unit.result c.from_residual-in_err-begin_unit.ensures.1 in
    rw (p.1, p.2) (λ units why. stop_never_spent c.in_err-begin_unit.field-0.0 units why)

pub returns-in_err-self-clause-spent : goal.returns-in_err-self-clause-spent
returns-in_err-self-clause-spent g c =
    let p = err_from_is_err_and c.from_residual.result c.from_residual.ensures.1 in
    rw (p.1, p.2) (λ units why. absurd (cc why))

pub returns-clause-counted : goal.returns-clause-counted
returns-clause-counted g c = c.in_ok-begin_unit.ensures.counted

pub returns-in_err-begin_unit-clause-uncalled : goal.returns-in_err-begin_unit-clause-uncalled
returns-in_err-begin_unit-clause-uncalled g c =
    let p = err_from_is_err_and c.from_residual-in_err-begin_unit.result c.from_residual-in_err-begin_unit.ensures.1 in
    rw (p.1, p.2) (λ units why. stop_never_spent c.in_err-begin_unit.field-0.0 units why)

pub returns-in_err-self-clause-uncalled : goal.returns-in_err-self-clause-uncalled
returns-in_err-self-clause-uncalled g c =
    let p = err_from_is_err_and c.from_residual.result c.from_residual.ensures.1 in
    rw (p.1, p.2) (λ units why. refl)
