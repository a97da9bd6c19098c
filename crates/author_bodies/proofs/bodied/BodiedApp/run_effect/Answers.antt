-- An effect means its program.
use Rattle.std.proofs.Common.{false}
use Rattle.author_calls.specs.Answers.{no_answer}
use Rattle.author_bodies.proofs.Meant.{turn-means}
use Rattle.author_bodies.proofs.bodied.BodiedApp.run_effect.Goals as goal

pub returns-clause-means : goal.returns-clause-means
returns-clause-means g c =
    turn-means no_answer false c.args.cx c.effect.new.cx ((g.B.Bodies.programs c.args.self.now.bodies).effect c.args.effect.now) tt c.finish.result c.requires.fresh c.in_ok-effect.ensures.came c.finish.ensures
