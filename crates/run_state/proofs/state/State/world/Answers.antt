use Rattle.run_state.proofs.SeenWorld.{world-is}
use Rattle.run_state.proofs.state.State.world.Goals as goal

pub returns : goal.returns
returns g c = λ kept scope. world-is c.args.self.now kept scope c.args.task c.args.rendering
