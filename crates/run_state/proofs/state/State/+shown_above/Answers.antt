-- A climb ends at the top, at a scope that is gone, and at one that shows another side.
use Rattle.std.proofs.Common.{◌∙◌, ap, sym}
use Rattle.std.specs.Prelude.{Some, None}
use Rattle.run_records.specs.Records.{number_of}
use Rattle.run_records.specs.Kept.{scope_of}
use Rattle.run_state.specs.Mirror.{scopes_of}
use Rattle.run_state.proofs.Each.{found-each}
use Rattle.run_state.proofs.Climbed.{is_zero, not_zero, over_gone, over_last, over_on, over_other, over_top}
use Rattle.run_state.proofs.state.State.+shown_above.Goals as goal

pub returns-in_default : goal.returns-in_default
returns-in_default g t c =
    over_top (scopes_of (c.args.self.now.rows).table) c.args.steps (scope_of c.args.found.now) (ap number_of c.in_default.is)

pub returns-in_default-scope : goal.returns-in_default-scope
returns-in_default-scope g t c =
    over_gone (scopes_of (c.args.self.now.rows).table) c.args.steps (scope_of c.args.found.now) c.in-Some.parent.0 (ap number_of c.in-Some.is)
    (found-each scope_of (c.args.self.now.rows).table c.in-Some.parent.0 None c.in_default-scope.ensures)

pub returns-then-not-is_side : goal.returns-then-not-is_side
returns-then-not-is_side g t c =
    over_other (scopes_of (c.args.self.now.rows).table) c.args.steps (scope_of c.args.found.now) c.in-Some.parent.0 (ap number_of c.in-Some.is) (scope_of c.in-Some-scope.above.now)
    (found-each scope_of (c.args.self.now.rows).table c.in-Some.parent.0 (Some c.in-Some-scope.above.now) c.in-Some-scope.ensures) (sym c.is_side.ensures ∙ c.if-not-is_side.true)

pub returns-then-steps-eq0 : goal.returns-then-steps-eq0
returns-then-steps-eq0 g t c =
    over_last (scopes_of (c.args.self.now.rows).table) c.args.steps (scope_of c.args.found.now) c.in-Some.parent.0 (ap number_of c.in-Some.is) (scope_of c.in-Some-scope.above.now)
    (found-each scope_of (c.args.self.now.rows).table c.in-Some.parent.0 (Some c.in-Some-scope.above.now) c.in-Some-scope.ensures) (sym c.is_side.ensures ∙ c.if-not-is_side.false) (is_zero c.args.steps c.if-steps-eq0.true)

pub returns : goal.returns
returns g t c =
    c.shown_above.ensures
    ∙ over_on (scopes_of (c.args.self.now.rows).table) c.args.steps (scope_of c.args.found.now) c.in-Some.parent.0 (ap number_of c.in-Some.is) (scope_of c.in-Some-scope.above.now)
    (found-each scope_of (c.args.self.now.rows).table c.in-Some.parent.0 (Some c.in-Some-scope.above.now) c.in-Some-scope.ensures) (sym c.is_side.ensures ∙ c.if-not-is_side.false) (not_zero c.args.steps c.if-steps-eq0.false)
