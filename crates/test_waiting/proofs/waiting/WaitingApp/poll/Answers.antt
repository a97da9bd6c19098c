-- A task ends at its poll.
use Rattle.std.proofs.Common.{false}
use Rattle.author_calls.specs.Answers.{step_of}
use Rattle.author_calls.specs.declared.application.TaskStep.TheVariants.{Ready}
use Rattle.rt_model.specs.Program.{done}
use Rattle.rt_model.specs.World.{ready}
use Rattle.author_programs.proofs.Steps.{at_done}
use Rattle.author_bodies.proofs.Meant.{turn-means}
use Rattle.test_waiting.proofs.waiting.WaitingApp.poll.Goals as goal

pub returns-clause-means : goal.returns-clause-means
returns-clause-means c =
    turn-means step_of false c.args.cx c.args.cx (done ready) Ready c.finish.result c.requires.fresh (λ had. at_done _ _ _) c.finish.ensures
