use Rattle.std.proofs.Common.{◌∙◌, ap, sym, subst}
use Rattle.std.specs.Prelude.{is_some}
use Rattle.rt_model.specs.Lists.{at}
use Rattle.run_state.specs.Mirror.{scopes_of}
use Rattle.run_shown.specs.Stands.{Stands}
use Rattle.run_shown.proofs.Standing.{stands_kept}
use Rattle.run_outside.proofs.Said.{on_ok}
use Rattle.run_standing.proofs.Keeps.{some_there, some_still, none_there}
use Rattle.run_standing.proofs.standing.keep.Goals as goal

pub returns-then-has-clause-kept : goal.returns-then-has-clause-kept
returns-then-has-clause-kept g c = sym c.has.ensures ∙ c.if-has.true

pub returns-clause-kept : goal.returns-clause-kept
returns-clause-kept g c = on_ok c.push.result c.push.ensures.ok (λ h. ap (λ xs. is_some (at xs c.args.scope)) h ∙ some_there c.args.stood.now c.args.scope c.in_ok-shown.shown)

pub returns-clause-others : goal.returns-clause-others
returns-clause-others g c =
    on_ok c.push.result c.push.ensures.ok
    (λ h other some. ap (λ xs. is_some (at xs other)) h ∙ some_still c.args.stood.now c.args.scope c.in_ok-shown.shown other some)

pub returns-clause-stands : goal.returns-clause-stands
returns-clause-stands g c =
    on_ok c.push.result c.push.ensures.ok
    (
    λ h was stands.
    subst (λ xs. Stands xs was (scopes_of (c.args.state.now.rows).table)) (sym h)
    (stands_kept c.args.stood.now was (scopes_of (c.args.state.now.rows).table) c.args.scope c.in_ok-shown.shown stands
    (none_there (at c.args.stood.now c.args.scope) (sym c.has.ensures ∙ c.if-has.false))
    c.in_ok-shown.ensures)
    )
