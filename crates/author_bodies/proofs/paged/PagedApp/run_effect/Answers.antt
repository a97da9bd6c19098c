-- An effect does nothing.
use Rattle.std.proofs.Common.{false}
use Rattle.author_calls.specs.Answers.{no_answer}
use Rattle.rt_model.specs.Program.{done}
use Rattle.rt_model.specs.World.{nothing}
use Rattle.author_programs.proofs.Steps.{at_done}
use Rattle.author_bodies.proofs.Meant.{turn-means}
use Rattle.author_bodies.proofs.paged.PagedApp.run_effect.Goals as goal

pub returns-clause-means : goal.returns-clause-means
returns-clause-means g c =
    turn-means no_answer false c.args.cx c.args.cx (done nothing) tt c.finish.result c.requires.fresh (λ had. at_done _ _ _) c.finish.ensures
