-- Nothing hides the scope that is known to show.
use Rattle.std.proofs.Common.{◌≡◌, ◌∙◌, ap, subst, sym, true}
use Rattle.std.specs.Prelude.{IfSome}
use Rattle.run_state.specs.Mirror.{scopes_of}
use Rattle.run_state.specs.Mounts.{shown_in}
use Rattle.run_state.proofs.state.State.hider_past.Goals as goal

pub returns-then-one-scope-clause-shown : goal.returns-then-one-scope-clause-shown
returns-then-one-scope-clause-shown g c =
    let scopes = scopes_of (c.args.self.now.rows).table in
    ap (λ s. shown_in scopes s) (sym c.if-one-scope.true) ∙ subst (λ o. IfSome o (λ s. shown_in scopes s ≡ true)) c.in-Some.is c.requires.known
