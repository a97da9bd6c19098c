-- An effect means its program.
use Rattle.std.proofs.Common.{false}
use Rattle.author_calls.specs.Answers.{no_answer}
use Rattle.author_bodies.proofs.Meant.{turn-means}
use Rattle.test_waiting.specs.Meaning.{done_effect}
use Rattle.test_waiting.proofs.waiting.WaitingApp.run_effect.Goals as goal

pub returns-clause-means : goal.returns-clause-means
returns-clause-means c =
    turn-means no_answer false c.args.cx c.act.new.cx (done_effect c.args.effect.now) tt c.finish.result c.requires.fresh c.in_ok-act.ensures.came c.finish.ensures
