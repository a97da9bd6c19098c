-- A step of a task means its program.
use Rattle.std.proofs.Common.{false}
use Rattle.author_calls.specs.Answers.{step_of}
use Rattle.author_bodies.proofs.Meant.{turn-means}
use Rattle.author_bodies.proofs.bodied.BodiedApp.poll.Goals as goal

pub returns-clause-means : goal.returns-clause-means
returns-clause-means g c =
    turn-means step_of false c.args.cx c.step.new.cx ((g.B.Bodies.programs c.args.self.now.bodies).poll c.args.state) c.in_ok-step.step c.finish.result c.requires.fresh c.in_ok-step.ensures.came c.finish.ensures
