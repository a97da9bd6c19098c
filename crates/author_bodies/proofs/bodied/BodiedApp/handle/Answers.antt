-- A listener means its program.
use Rattle.std.proofs.Common.{false}
use Rattle.author_calls.specs.Answers.{event_of}
use Rattle.author_bodies.proofs.Meant.{turn-means}
use Rattle.author_bodies.proofs.bodied.BodiedApp.handle.Goals as goal

pub returns-clause-means : goal.returns-clause-means
returns-clause-means g c =
    turn-means (λ _. event_of c.hear.new.event) false c.args.cx c.hear.new.cx ((g.B.Bodies.programs c.args.self.now.bodies).handle c.args.handler.now (event_of c.args.event.now)) tt c.finish.result c.requires.fresh c.in_ok-hear.ensures.came c.finish.ensures
