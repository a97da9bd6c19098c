use Rattle.std.proofs.Common.{◌≡◌, ◌&&◌, ◌∙◌, ap, sym}
use Rattle.std.specs.Prelude.{Some, None}
use Rattle.run_places.specs.Places.{side_name_of}
use Rattle.run_records.specs.Records.{number_of}
use Rattle.run_records.specs.Kept.{scope_of}
use Rattle.run_state.specs.Mirror.{scopes_of}
use Rattle.run_state.proofs.Each.{found-each}
use Rattle.run_state.proofs.Climbed.{is_zero, not_zero, location_end, location_gone, location_top, location_here, location_on}
use Rattle.run_state.proofs.state.State.+location_from.Goals as goal

pub returns-then-steps-eq0 : goal.returns-then-steps-eq0
returns-then-steps-eq0 g t c = location_end (scopes_of (c.args.self.now.rows).table) c.args.steps c.args.scope (is_zero c.args.steps c.if-steps-eq0.true)

pub returns-in_default : goal.returns-in_default
returns-in_default g t c = location_gone (scopes_of (c.args.self.now.rows).table) c.args.steps c.args.scope (not_zero c.args.steps c.if-steps-eq0.false) (found-each scope_of (c.args.self.now.rows).table c.args.scope None c.in_default.ensures)

pub returns-in_default-parent : goal.returns-in_default-parent
returns-in_default-parent g t c = location_top (scopes_of (c.args.self.now.rows).table) c.args.steps c.args.scope (not_zero c.args.steps c.if-steps-eq0.false) (scope_of c.in-Some.found.now) (found-each scope_of (c.args.self.now.rows).table c.args.scope (Some c.in-Some.found.now) c.in-Some.ensures) (ap number_of c.in_default-parent.is)

pub returns-then-is_boundary : goal.returns-then-is_boundary
returns-then-is_boundary g t c =
    location_here (scopes_of (c.args.self.now.rows).table) c.args.steps c.args.scope (not_zero c.args.steps c.if-steps-eq0.false) (scope_of c.in-Some.found.now) c.in-Some-parent.parent.0 (found-each scope_of (c.args.self.now.rows).table c.args.scope (Some c.in-Some.found.now) c.in-Some.ensures) (ap number_of c.in-Some-parent.is) (sym c.is_boundary.ensures ∙ c.if-is_boundary.true)

pub returns : goal.returns
returns g t c =
    c.location_from.ensures
    ∙ location_on (scopes_of (c.args.self.now.rows).table) c.args.steps c.args.scope (not_zero c.args.steps c.if-steps-eq0.false) (scope_of c.in-Some.found.now) c.in-Some-parent.parent.0 (found-each scope_of (c.args.self.now.rows).table c.args.scope (Some c.in-Some.found.now) c.in-Some.ensures) (ap number_of c.in-Some-parent.is) (sym c.is_boundary.ensures ∙ c.if-is_boundary.false)
