-- A listener does nothing.
use Rattle.std.proofs.Common.{false}
use Rattle.author_calls.specs.Answers.{event_of}
use Rattle.rt_model.specs.Program.{done}
use Rattle.author_programs.proofs.Steps.{at_done}
use Rattle.author_bodies.proofs.Meant.{turn-means}
use Rattle.test_waiting.proofs.waiting.WaitingApp.handle.Goals as goal

pub returns-clause-means : goal.returns-clause-means
returns-clause-means c =
    turn-means (λ _. event_of c.args.event.now) false c.args.cx c.args.cx (done (event_of c.args.event.now)) tt c.finish.result c.requires.fresh (λ had. at_done _ _ _) c.finish.ensures
