-- A poll means its program.
use Rattle.std.proofs.Common.{false}
use Rattle.author_calls.specs.Answers.{step_of}
use Rattle.lang_script.specs.Applications.{programs_of_script}
use Rattle.author_bodies.proofs.Meant.{turn-means}
use Rattle.lang_script.proofs.script.ScriptApp.poll.Goals as goal

pub returns-clause-means : goal.returns-clause-means
returns-clause-means c =
    turn-means step_of false c.args.cx c.polled.new.cx ((programs_of_script c.args.self.now).poll c.args.state) c.in_ok-step.step c.finish.result c.requires.fresh c.in_ok-step.ensures.came c.finish.ensures
