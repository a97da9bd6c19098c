-- A body means its program.
use Rattle.std.proofs.Common.{true}
use Rattle.tree_mirror.specs.Mirror.{element_of}
use Rattle.author_bodies.proofs.Meant.{turn-means}
use Rattle.test_waiting.specs.Meaning.{body}
use Rattle.test_waiting.proofs.waiting.WaitingApp.render.Goals as goal

pub returns-clause-means : goal.returns-clause-means
returns-clause-means c =
    turn-means element_of true c.args.cx c.answer.new.cx (body c.args.component.now c.args.props.now) c.in_ok-answer.answer c.finish.result c.requires.fresh c.in_ok-answer.ensures.came c.finish.ensures
