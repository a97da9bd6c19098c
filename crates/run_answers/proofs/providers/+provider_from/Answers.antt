-- Each step of the way up.
use Rattle.std.proofs.Common.{◌∙◌, ap, sym}
use Rattle.std.specs.Prelude.{Some, None}
use Rattle.run_records.specs.Records.{number_of}
use Rattle.run_records.specs.Kept.{scope_of}
use Rattle.run_state.specs.Mirror.{scopes_of}
use Rattle.run_state.proofs.Each.{found-each}
use Rattle.run_state.proofs.Climbed.{is_zero, not_zero, climb_gone, climb_here, climb_top, climb_end, climb_on}
use Rattle.run_answers.specs.Provided.{provides}
use Rattle.run_answers.proofs.providers.+provider_from.Goals as goal

pub returns-in_default : goal.returns-in_default
returns-in_default g t c =
    climb_gone (provides c.args.kind) (scopes_of (c.args.scopes.now.rows).table) c.args.steps c.args.scope
    (found-each scope_of (c.args.scopes.now.rows).table c.args.scope None c.in_default.ensures)

pub returns-then-provides : goal.returns-then-provides
returns-then-provides g t c =
    climb_here (provides c.args.kind) (scopes_of (c.args.scopes.now.rows).table) c.args.steps c.args.scope (scope_of c.in-Some.found.now)
    (found-each scope_of (c.args.scopes.now.rows).table c.args.scope (Some c.in-Some.found.now) c.in-Some.ensures)
    (sym c.provides.ensures ∙ c.if-provides.true)

pub returns-in_default-parent : goal.returns-in_default-parent
returns-in_default-parent g t c =
    climb_top (provides c.args.kind) (scopes_of (c.args.scopes.now.rows).table) c.args.steps c.args.scope (scope_of c.in-Some.found.now)
    (found-each scope_of (c.args.scopes.now.rows).table c.args.scope (Some c.in-Some.found.now) c.in-Some.ensures)
    (sym c.provides.ensures ∙ c.if-provides.false) (ap number_of c.in_default-parent.is)

pub returns-then-steps-eq0 : goal.returns-then-steps-eq0
returns-then-steps-eq0 g t c =
    climb_end (provides c.args.kind) (scopes_of (c.args.scopes.now.rows).table) c.args.steps c.args.scope c.in-Some-parent.parent.0 (scope_of c.in-Some.found.now)
    (is_zero c.args.steps c.if-steps-eq0.true)
    (found-each scope_of (c.args.scopes.now.rows).table c.args.scope (Some c.in-Some.found.now) c.in-Some.ensures)
    (sym c.provides.ensures ∙ c.if-provides.false) (ap number_of c.in-Some-parent.is)

pub returns : goal.returns
returns g t c =
    c.provider_from.ensures
    ∙ climb_on (provides c.args.kind) (scopes_of (c.args.scopes.now.rows).table) c.args.steps c.args.scope c.in-Some-parent.parent.0 (scope_of c.in-Some.found.now)
    (not_zero c.args.steps c.if-steps-eq0.false)
    (found-each scope_of (c.args.scopes.now.rows).table c.args.scope (Some c.in-Some.found.now) c.in-Some.ensures)
    (sym c.provides.ensures ∙ c.if-provides.false) (ap number_of c.in-Some-parent.is)
