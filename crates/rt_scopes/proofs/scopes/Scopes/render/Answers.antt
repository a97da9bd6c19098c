-- What the application's body left.
use Rattle.rt_scopes.proofs.Settled.{leaves_call}
use Rattle.rt_scopes.proofs.scopes.Scopes.render.Goals as goal

pub returns-clause-means : goal.returns-clause-means
returns-clause-means g c =
    leaves_call ((g.A.App.meaning c.args.app.now).body c.args.component.now c.args.props.now) c.args.self.now.state c.args.scope c.parts.result
    c.in_ok-turn.turn.meaning c.enter-cx.result _ c.enter-cx.ensures.begun (λ kept. c.world-world.ensures kept _) c.in_ok-turn.ensures.means
    c.parts.ensures.answer c.parts.ensures.reads c.parts.ensures.commands c.parts.ensures.next c.parts.ensures.fault

pub returns-clause-counted : goal.returns-clause-counted
returns-clause-counted g c = c.enter-cx.ensures.counted

pub returns-in_err-turn-clause-counted : goal.returns-in_err-turn-clause-counted
returns-in_err-turn-clause-counted g c = c.enter-cx.ensures.counted
