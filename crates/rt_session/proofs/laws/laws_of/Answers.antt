use Rattle.rt_session.proofs.laws.laws_of.Goals as goal

pub returns : goal.returns
returns g c = c.sessions_hold.ensures (g.A.App.meaning c.args.app.now)
