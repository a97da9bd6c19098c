-- An error boundary's answer, with its read of the error that it keeps.
use Rattle.std.proofs.Common.{refl}
use Rattle.run_state.proofs.Changed.{if_ok}
use Rattle.rt_scopes.proofs.Counted.{on_any}
use Rattle.rt_scopes.proofs.Settled.{leaves_caught}
use Rattle.rt_scopes.proofs.scopes.Scopes.caught.Goals as goal

pub returns-clause-means : goal.returns-clause-means
returns-clause-means g c =
    if_ok c.and_read.result c.and_read.ensures
    (λ more is. leaves_caught (g.A.App.meaning c.args.app.now) c.args.self.now.state c.args.scope c.in_ok-parts.parts more _ _ _ is refl c.in_ok-parts.ensures.means)

pub returns-clause-counted : goal.returns-clause-counted
returns-clause-counted g c = on_any c.and_read.result c.in_ok-parts.ensures.counted
