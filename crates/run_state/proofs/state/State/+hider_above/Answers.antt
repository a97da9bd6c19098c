-- A climb ends at the top, at a scope that is gone, and at one that shows another side.
use Rattle.std.proofs.Common.{◌∙◌, ap, sym}
use Rattle.std.specs.Prelude.{Some, None}
use Rattle.run_records.specs.Records.{number_of}
use Rattle.run_records.specs.Kept.{scope_of}
use Rattle.run_state.specs.Mirror.{scopes_of}
use Rattle.run_state.proofs.Each.{found-each}
use Rattle.run_state.proofs.Climbed.{is_zero, not_zero, over_last, over_on, over_top}
use Rattle.run_state.proofs.Ways.{hider_gone, hider_here, hider_on, none_through, some_through}
use Rattle.run_state.proofs.state.State.+hider_above.Goals as goal

pub returns-in_default-clause-shown : goal.returns-in_default-clause-shown
returns-in_default-clause-shown g t c = over_top (scopes_of (c.args.self.now.rows).table) c.args.steps (scope_of c.args.found.now) (ap number_of c.in_default.is)

pub returns-in_default-scope-clause-hidden : goal.returns-in_default-scope-clause-hidden
returns-in_default-scope-clause-hidden g t c =
    hider_gone (scopes_of (c.args.self.now.rows).table) c.args.steps (scope_of c.args.found.now) c.in-Some.parent.0 (ap number_of c.in-Some.is) c.in-Some.parent.0
    (found-each scope_of (c.args.self.now.rows).table c.in-Some.parent.0 None c.in_default-scope.ensures)

pub returns-then-not-is_side-clause-hidden : goal.returns-then-not-is_side-clause-hidden
returns-then-not-is_side-clause-hidden g t c =
    hider_here (scopes_of (c.args.self.now.rows).table) c.args.steps (scope_of c.args.found.now) c.in-Some.parent.0 (ap number_of c.in-Some.is) (scope_of c.in-Some-scope.above.now)
    (found-each scope_of (c.args.self.now.rows).table c.in-Some.parent.0 (Some c.in-Some-scope.above.now) c.in-Some-scope.ensures) (sym c.is_side.ensures ∙ c.if-not-is_side.true)

pub returns-then-steps-eq0-clause-shown : goal.returns-then-steps-eq0-clause-shown
returns-then-steps-eq0-clause-shown g t c =
    over_last (scopes_of (c.args.self.now.rows).table) c.args.steps (scope_of c.args.found.now) c.in-Some.parent.0 (ap number_of c.in-Some.is) (scope_of c.in-Some-scope.above.now)
    (found-each scope_of (c.args.self.now.rows).table c.in-Some.parent.0 (Some c.in-Some-scope.above.now) c.in-Some-scope.ensures) (sym c.is_side.ensures ∙ c.if-not-is_side.false) (is_zero c.args.steps c.if-steps-eq0.true)

pub returns-clause-hidden : goal.returns-clause-hidden
returns-clause-hidden g t c =
    some_through c.hider_above.result c.hider_above.ensures.hidden
    (
    λ b h.
    hider_on (scopes_of (c.args.self.now.rows).table) c.args.steps (scope_of c.args.found.now) c.in-Some.parent.0 (ap number_of c.in-Some.is) (scope_of c.in-Some-scope.above.now)
    (found-each scope_of (c.args.self.now.rows).table c.in-Some.parent.0 (Some c.in-Some-scope.above.now) c.in-Some-scope.ensures) b (not_zero c.args.steps c.if-steps-eq0.false) h
    )

pub returns-clause-shown : goal.returns-clause-shown
returns-clause-shown g t c =
    none_through c.hider_above.result c.hider_above.ensures.shown
    (
    λ h.
    h
    ∙ over_on (scopes_of (c.args.self.now.rows).table) c.args.steps (scope_of c.args.found.now) c.in-Some.parent.0 (ap number_of c.in-Some.is) (scope_of c.in-Some-scope.above.now)
    (found-each scope_of (c.args.self.now.rows).table c.in-Some.parent.0 (Some c.in-Some-scope.above.now) c.in-Some-scope.ensures) (sym c.is_side.ensures ∙ c.if-not-is_side.false) (not_zero c.args.steps c.if-steps-eq0.false)
    )
